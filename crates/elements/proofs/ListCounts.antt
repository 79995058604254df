-- How many elements of a list pass a test.
use Rattle.std.proofs.Common.{◌≡◌, ℕ, zero, suc, ◌+◌, ◌<◌, ◌≤◌, Bool, true, false, cond, not, List, [], ◌∷◌, ◌++◌, map, length, get_or, sum_by, refl, ap, inl, inr, suc-le-suc, zero-le, le_of_suc-le-suc, not-suc-le-zero, arith}
use Rattle.std.specs.List.{AllByRecursion as All}
use Rattle.std.proofs.lemmas.List.Sums.{sum_by-cons}
use Rattle.std.proofs.lemmas.Bool.{cases_Bool, cond-true, cond-false}
use Rattle.elements.specs.Ranks.{joint, count}

-- one element adds at most 1
bit_le : (b : Bool) → cond b 1 0 ≤ 1
bit_le true = omega arith
bit_le false = omega arith

module _ {X : Type 0} where
  -- of two lists put together, as many pass as of both
  pub count-append : (p : X → Bool) (xs ys : List X) → count p (xs ++ ys) ≡ count p xs + count p ys
  count-append p [] ys = omega arith
  count-append p (x ∷ xs) ys = omega (arith, count-append p xs ys)

  -- of the joint elements, as many pass as of all the lists
  pub count-joint : (p : X → Bool) (lists : List (List X)) → count p (joint lists) ≡ sum_by (count p) lists
  count-joint p [] = refl
  count-joint p (xs ∷ lists) = omega (arith, count-append p xs (joint lists), count-joint p lists, sum_by-cons (count p) xs lists)

  -- no more pass than there are
  pub count_le_length : (p : X → Bool) (xs : List X) → count p xs ≤ length xs
  count_le_length p [] = omega arith
  count_le_length p (x ∷ xs) = omega (arith, bit_le (p x), count_le_length p xs)

  -- where whatever passes p passes q, no more pass p than q
  pub count_weaken : (p q : X → Bool) (xs : List X) → ((y : X) → p y ≡ true → q y ≡ true) → count p xs ≤ count q xs
  count_weaken p q [] h = omega arith
  count_weaken p q (x ∷ xs) h =
      let rest = count_weaken p q xs h in
      elim (cases_Bool (p x)) [
        | inl t ↦ omega (arith, cond-true {A = ℕ} (q x) 1 0 (h x t), bit_le (p x), rest)
        | inr f ↦ omega (arith, cond-false {A = ℕ} (p x) 1 0 f, rest)
      ]

  -- where none passes from index n on, at most n pass
  pub count_past : (p : X → Bool) (xs : List X) (n : ℕ) → ((i : ℕ) (d : X) → n ≤ i → i < length xs → p (get_or xs i d) ≡ false) → count p xs ≤ n
  count_past p [] n h = omega arith
  count_past p (x ∷ xs) zero h =
      omega (arith, cond-false {A = ℕ} (p x) 1 0 (h 0 x zero-le (omega arith)), count_past p xs 0 (λ i d a b. h (suc i) d zero-le (suc-le-suc b)))
  count_past p (x ∷ xs) (suc n) h =
      omega (arith, bit_le (p x), count_past p xs n (λ i d a b. h (suc i) d (suc-le-suc a) (suc-le-suc b)))

  -- where all pass before index n, at least n pass
  pub count-front : (p : X → Bool) (xs : List X) (n : ℕ) → n ≤ length xs → ((i : ℕ) (d : X) → i < n → p (get_or xs i d) ≡ true) → n ≤ count p xs
  count-front p xs zero l h = zero-le
  count-front p [] (suc n) l h = absurd (not-suc-le-zero l)
  count-front p (x ∷ xs) (suc n) l h =
      omega (arith, cond-true {A = ℕ} (p x) 1 0 (h 0 x (omega arith)), count-front p xs n (le_of_suc-le-suc l) (λ i d a. h (suc i) d (suc-le-suc a)))

  -- every element passes a test or does not
  pub count-not : (p : X → Bool) (xs : List X) → count p xs + count (λ x. not (p x)) xs ≡ length xs
  count-not p [] = refl
  count-not p (x ∷ xs) = omega (arith, one (p x), count-not p xs)
    where
      one : (b : Bool) → cond b 1 0 + cond (not b) 1 0 ≡ 1
      one true = refl
      one false = refl

  -- where all pass, as many pass as there are
  pub count_all : (p : X → Bool) (xs : List X) → All (λ x. p x ≡ true) xs → count p xs ≡ length xs
  count_all p [] a = refl
  count_all p (x ∷ xs) a = omega (arith, cond-true {A = ℕ} (p x) 1 0 a.0, count_all p xs a.1)

  -- where none passes, 0 do
  pub count_none : (p : X → Bool) (xs : List X) → All (λ x. p x ≡ false) xs → count p xs ≡ 0
  count_none p [] a = refl
  count_none p (x ∷ xs) a = omega (arith, cond-false {A = ℕ} (p x) 1 0 a.0, count_none p xs a.1)

  -- as many pass a test as another that answers the same
  pub count_same : (p q : X → Bool) (xs : List X) → ((x : X) → p x ≡ q x) → count p xs ≡ count q xs
  count_same p q [] h = refl
  count_same p q (x ∷ xs) h = rw (h x) (ap (λ (n : ℕ). cond (q x) 1 0 + n) (count_same p q xs h))

-- of what a list is mapped to, as many pass a test as elements of the list pass it once they are mapped
pub count-map : {X Y : Type 0} (p : Y → Bool) (f : X → Y) (xs : List X) → count p (map f xs) ≡ count (λ x. p (f x)) xs
count-map p f [] = refl
count-map p f (x ∷ xs) = ap (λ (n : ℕ). cond (p (f x)) 1 0 + n) (count-map p f xs)
