-- What is read, put and added up of two lists taken in turns.
use Rattle.std.proofs.Common.{◌≡◌, ℕ, zero, suc, ◌+◌, ◌-◌, ◌/◌, ◌%◌, Bool, true, false, cond, List, [], ◌∷◌, length, take, refl, ap, ◌∙◌, arith}
use Rattle.std.specs.Prelude.{None, slice_get, slice_set, ◌==◌}
use Rattle.std.specs.List.{sum_by}
use Rattle.std.proofs.lemmas.List.Sums.{sum_by-cons}
use Rattle.group.specs.SeatTables.{weave}

-- both branches alike
alike : {A : Type 0} (b : Bool) (x : A) → x ≡ cond b x x
alike true x = refl
alike false x = refl

-- an even number is read in the one list, an odd one in the other, at half the number
pub reads_by_parity : {X : Type 0} (xs ys : List X) → length xs ≡ length ys → (i : ℕ) →
    slice_get (weave xs ys) i ≡ cond (i % 2 == 0) (slice_get xs (i / 2)) (slice_get ys (i / 2))
reads_by_parity [] [] e i = alike (i % 2 == 0) None
reads_by_parity [] (y ∷ ys) e i = absurd (omega arith)
reads_by_parity (x ∷ xs) [] e i = absurd (omega arith)
reads_by_parity (x ∷ xs) (y ∷ ys) e zero = refl
reads_by_parity (x ∷ xs) (y ∷ ys) e (suc zero) = refl
reads_by_parity (x ∷ xs) (y ∷ ys) e (suc (suc i)) =
    let same : length xs ≡ length ys = omega arith in
    let half : suc (suc i) / 2 ≡ suc (i / 2) = omega arith in
    let parity : suc (suc i) % 2 ≡ i % 2 = omega arith in
    rw (half, parity) (reads_by_parity xs ys same i)

-- an even number is put into the one list, an odd one into the other
pub puts_by_parity : {X : Type 0} (xs ys : List X) → length xs ≡ length ys → (i : ℕ) (x : X) →
    slice_set (weave xs ys) i x ≡ cond (i % 2 == 0) (weave (slice_set xs (i / 2) x) ys) (weave xs (slice_set ys (i / 2) x))
puts_by_parity [] [] e i v = alike (i % 2 == 0) []
puts_by_parity [] (y ∷ ys) e i v = absurd (omega arith)
puts_by_parity (x ∷ xs) [] e i v = absurd (omega arith)
puts_by_parity (x ∷ xs) (y ∷ ys) e zero v = refl
puts_by_parity (x ∷ xs) (y ∷ ys) e (suc zero) v = refl
puts_by_parity (x ∷ xs) (y ∷ ys) e (suc (suc i)) v =
    let same : length xs ≡ length ys = omega arith in
    let half : suc (suc i) / 2 ≡ suc (i / 2) = omega arith in
    let parity : suc (suc i) % 2 ≡ i % 2 = omega arith in
    rw (half, parity) (ap (λ l. x ∷ y ∷ l) (puts_by_parity xs ys same i v) ∙ both (i % 2 == 0))
  where
    both : (b : Bool) →
        x ∷ y ∷ cond b (weave (slice_set xs (i / 2) v) ys) (weave xs (slice_set ys (i / 2) v))
        ≡ cond b (x ∷ y ∷ weave (slice_set xs (i / 2) v) ys) (x ∷ y ∷ weave xs (slice_set ys (i / 2) v))
    both true = refl
    both false = refl

-- a sum over the first of no elements is 0
none_taken : {X : Type 0} (f : X → ℕ) (n : ℕ) → sum_by f (take n []) ≡ 0
none_taken f zero = refl
none_taken f (suc n) = refl

-- a sum over the first n of two lists taken in turns is a sum over the first half of n of the one and over the other half of the other
pub sum_in_turns : {X : Type 0} (f : X → ℕ) (n : ℕ) (xs ys : List X) → length xs ≡ length ys →
    sum_by f (take n (weave xs ys)) ≡ sum_by f (take (n - n / 2) xs) + sum_by f (take (n / 2) ys)
sum_in_turns f zero xs ys e = refl
sum_in_turns f (suc n) [] (y ∷ ys) e = absurd (omega arith)
sum_in_turns f (suc n) (x ∷ xs) [] e = absurd (omega arith)
sum_in_turns f (suc n) [] [] e = omega (arith, none_taken f (suc n - suc n / 2), none_taken f (suc n / 2))
sum_in_turns f (suc zero) (x ∷ xs) (y ∷ ys) e = omega arith
sum_in_turns f (suc (suc n)) (x ∷ xs) (y ∷ ys) e =
    let same : length xs ≡ length ys = omega arith in
    let half : suc (suc n) / 2 ≡ suc (n / 2) = omega arith in
    let other : suc (suc n) - suc (n / 2) ≡ suc (n - n / 2) = omega arith in
    rw (half, other) (omega (
      arith,
      sum_in_turns f n xs ys same,
      sum_by-cons f x (y ∷ take n (weave xs ys)),
      sum_by-cons f y (take n (weave xs ys)),
      sum_by-cons f x (take (n - n / 2) xs),
      sum_by-cons f y (take (n / 2) ys),
    ))
