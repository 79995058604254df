-- The laws that an ordered type owes, those that a placed one owes besides, and lists in order.
use Rattle.std.specs.Prelude.{◌≡◌, ℕ, suc, ◌-◌, ◌^◌, ◌<◌, ◌≤◌, Bool, true, false, ◌⊎◌, List, length, Some, None, Option, nat_lt, slice_index_or}
use Rattle.std.specs.Ordering.{is_lt}
use Rattle.std.specs.declared.cmp.Ordering.{Ordering}

-- exactly one of three holds
abbrev pub ExactlyOne : Type 0 → Type 0 → Type 0 → Type 0
ExactlyOne P Q R = (P × (Q → ⊥) × (R → ⊥)) ⊎ (((P → ⊥) × Q × (R → ⊥)) ⊎ ((P → ⊥) × (Q → ⊥) × R))

-- of two elements the first is before, the second is before, or they are equal
abbrev pub Trichotomy : {E : Type 0} → (E → E → Bool) → Type 0
Trichotomy {E} before = (x y : E) → ExactlyOne (before x y ≡ true) (before y x ≡ true) (x ≡ y)

abbrev pub Transitive : {E : Type 0} → (E → E → Bool) → Type 0
Transitive {E} before = (x y z : E) → before x y ≡ true → before y z ≡ true → before x z ≡ true

-- the law of an ordered type: before is an order
pub record IsOrder {E : Type 0} (before : E → E → Bool) : Type 0 where
  pub trichotomy : Trichotomy before
  pub transitive : Transitive before

-- the law of an ordered type that is compared by its `Ord`: before is an order, and it is what the type's own comparison calls less
pub record OrderLaw {E : Type 0} (before : E → E → Bool) (cmp : E → E → Ordering) : Type 0 where
  pub order : IsOrder before
  pub by_cmp : (x y : E) → before x y ≡ is_lt (cmp x y)

-- one element is before another exactly if its place is smaller
abbrev pub PlacesAgree : {E : Type 0} → (E → E → Bool) → (E → ℕ) → Type 0
PlacesAgree {E} before place = (x y : E) → before x y ≡ nat_lt (place x) (place y)

-- n is the place of exactly one element
abbrev pub OneElementAt : {E : Type 0} → (E → ℕ) → ℕ → Type 0
OneElementAt {E} place n = (x : E) × (place x ≡ n) × ((y : E) → place y ≡ n → y ≡ x)

abbrev pub OneElementEach : {E : Type 0} → (E → ℕ) → ℕ → ℕ → Type 0
OneElementEach place lowest highest = (n : ℕ) → lowest ≤ n → n ≤ highest → OneElementAt place n

-- the law of a placed type: places fit 64 bits and agree with the order, and each number from the lowest to the highest is the
-- place of exactly one element
pub record PlaceLaw {E : Type 0} (before : E → E → Bool) (place : E → ℕ) (lowest highest : ℕ) : Type 0 where
  pub agrees : PlacesAgree before place
  pub fits : highest < 2 ^ 64
  pub within : (x : E) → (lowest ≤ place x) × (place x ≤ highest)
  pub complete : OneElementEach place lowest highest

-- what answers the call for the element at place n: the element, or none outside the type's places
abbrev pub AtPlace : {E : Type 0} → (E → ℕ) → ℕ → ℕ → ℕ → Option E → Type 0
AtPlace place lowest highest n (Some x) = (place x ≡ n) × (lowest ≤ n) × (n ≤ highest)
AtPlace place lowest highest n None = lowest ≤ n → n ≤ highest → ⊥

-- a list in order: no element is before one that stands earlier
abbrev pub NeverFalls : {E : Type 0} → (E → E → Bool) → List E → Type 0
NeverFalls {E} before xs = (i j : ℕ) (d : E) → i ≤ j → j < length xs → before (slice_index_or xs j d) (slice_index_or xs i d) ≡ false

-- element spot, counted from 1, is before its predecessor, and no earlier element is before its own
pub record FirstFall {E : Type 0} (before : E → E → Bool) (xs : List E) (spot : ℕ) : Type 0 where
  pub second : 2 ≤ spot
  pub inside : spot ≤ length xs
  pub falls : (d : E) → before (slice_index_or xs (spot - 1) d) (slice_index_or xs (spot - 2) d) ≡ true
  pub first : (i : ℕ) (d : E) → suc i < spot - 1 → before (slice_index_or xs (suc i) d) (slice_index_or xs i d) ≡ false

-- the number, counted from 1, of the first element that is before its predecessor, if there is one
abbrev pub IsFirstFall : {E : Type 0} → (E → E → Bool) → List E → Option ℕ → Type 0
IsFirstFall before xs None = NeverFalls before xs
IsFirstFall before xs (Some number) = FirstFall before xs number

-- a list of so many elements, where each element is what a reading of its index may give
pub record IsReadByIndex {E : Type 0} (gives : ℕ → E → Type 0) (len : ℕ) (xs : List E) : Type 0 where
  pub long : length xs ≡ len
  pub at : (i : ℕ) (x d : E) → i < len → gives i x → slice_index_or xs i d ≡ x
