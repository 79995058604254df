-- What holds of ranks in every order.
use Rattle.std.specs.Prelude.{◌≡◌, ℕ, ◌-◌, ◌≤◌, Bool, List, length, slice_index_or}
use Rattle.std.specs.List.Sorted.{IsPermutation}
use Rattle.elements.specs.Orders.{NeverFalls}
use Rattle.elements.specs.Ranks.{joint, count, in_order, Ranked, Counted}

-- putting in order is what it says: the result never falls, and has the same elements, each as often
pub record PutsInOrder {X : Type 0} (before : X → X → Bool) : Type 0 where
  pub never_falls : (xs : List X) → NeverFalls before (in_order before xs)
  pub same_length : (xs : List X) → length (in_order before xs) ≡ length xs
  pub same_counts : (xs : List X) (test : X → Bool) → count test (in_order before xs) ≡ count test xs

-- an element is of rank k exactly if it is so by counting
pub record RankIsByCounting {X : Type 0} (before : X → X → Bool) : Type 0 where
  pub counted : (k : ℕ) (xs : List X) (x : X) → Ranked before k xs x → Counted before k xs x
  pub ranked : (k : ℕ) (xs : List X) (x : X) → Counted before k xs x → Ranked before k xs x

-- of every rank from 1 to the number of elements there is an element
abbrev pub EveryRankHasElement : {X : Type 0} → (X → X → Bool) → Type 0
EveryRankHasElement {X} before = (k : ℕ) (xs : List X) → 1 ≤ k → k ≤ length xs → (x : X) × Ranked before k xs x

-- two elements of one rank are equal
abbrev pub RankIsUnique : {X : Type 0} → (X → X → Bool) → Type 0
RankIsUnique {X} before = (k : ℕ) (xs : List X) (x y : X) → Ranked before k xs x → Ranked before k xs y → x ≡ y

-- in a list that never falls, the element of rank k is the one at index k - 1
abbrev pub RankIsIndex : {X : Type 0} → (X → X → Bool) → Type 0
RankIsIndex {X} before =
    (k : ℕ) (xs : List X) → NeverFalls before xs → 1 ≤ k → k ≤ length xs →
    (x : X) → ((d : X) → slice_index_or xs (k - 1) d ≡ x) → Ranked before k xs x

-- in which order lists are put together does not matter for the rank among their elements
abbrev pub RankInAnyOrderOfLists : {X : Type 0} → (X → X → Bool) → Type 0
RankInAnyOrderOfLists {X} before =
    (k : ℕ) (lists others : List (List X)) → IsPermutation lists others →
    (x : X) → Ranked before k (joint lists) x → Ranked before k (joint others) x
