-- The element of rank k of a list: the k-th, counted from 1, of its elements put in order.
use Rattle.std.specs.Prelude.{◌≡◌, ℕ, ◌+◌, ◌-◌, ◌<◌, ◌≤◌, Bool, cond, not, List, [], ◌∷◌, ◌++◌, length, slice_index_or}

-- the joint elements of some lists: all of them put together, repeats kept
abbrev pub joint : {X : Type 0} → List (List X) → List X
joint [] = []
joint (xs ∷ lists) = xs ++ joint lists

-- how many elements of a list pass a test
abbrev pub count : {X : Type 0} → (X → Bool) → List X → ℕ
count test [] = 0
count test (x ∷ xs) = cond (test x) 1 0 + count test xs

-- x put into a list in order, ahead of the first element that is not before it
abbrev pub put : {X : Type 0} → (X → X → Bool) → X → List X → List X
put before x [] = x ∷ []
put before x (y ∷ ys) = cond (before y x) (y ∷ put before x ys) (x ∷ y ∷ ys)

-- all elements of a list put in order, repeats kept
abbrev pub in_order : {X : Type 0} → (X → X → Bool) → List X → List X
in_order before [] = []
in_order before (x ∷ xs) = put before x (in_order before xs)

-- x is the k-th, counted from 1, of the elements of xs put in order
pub record Ranked {X : Type 0} (before : X → X → Bool) (k : ℕ) (xs : List X) (x : X) : Type 0 where
  pub first : 1 ≤ k
  pub last : k ≤ length xs
  pub is : (d : X) → slice_index_or (in_order before xs) (k - 1) d ≡ x

-- the same by counting: fewer than k elements of xs are before x, and at least k are not after it
pub record Counted {X : Type 0} (before : X → X → Bool) (k : ℕ) (xs : List X) (x : X) : Type 0 where
  pub few : count (λ y. before y x) xs < k
  pub many : k ≤ count (λ y. not (before x y)) xs
