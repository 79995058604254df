-- The halvings of a row are the logarithm of the rank, rounded up, and there are as many verdicts.
use Rattle.std.proofs.Common.{◌≡◌, ℕ, zero, suc, ◌+◌, ◌*◌, ◌^◌, ◌≤◌, leb, length, refl, ap, inl, inr, add-zero, arith, pow_pos}
use Rattle.std.proofs.lemmas.Bool.{cases_Bool, cases_lt, cond-true, cond-false, leb-true, leb-false}
use Rattle.referees.specs.declared.verdict.PairVerdict.{PairVerdict}
use Rattle.pair.specs.Rows.{halvings_from, halvings, row_length}
use Rattle.pair.specs.Bisection.{OfSides, half, moved, judged_verdicts}
use Rattle.pair.specs.PairLaws.{IsCeilLog2}
use Rattle.elements.proofs.Powers.{less_than_power}

-- looked for often enough, the power found is at least k
enough_from : (times i k : ℕ) → k ≤ 2 ^ (i + times) → k ≤ 2 ^ halvings_from times i k
enough_from zero i k h = rw add-zero at h
enough_from (suc times) i k h =
    let later = halvings_from times (suc i) k in
    elim (cases_Bool (leb k (2 ^ i))) [
      | inl t ↦ rw (cond-true {A = ℕ} (leb k (2 ^ i)) i later t) (leb-true k (2 ^ i) t)
      | inr f ↦
          let e : i + suc times ≡ suc i + times = omega arith in
          rw (cond-false {A = ℕ} (leb k (2 ^ i)) i later f) (enough_from times (suc i) k (rw e at h))
    ]

-- no smaller exponent, from i on, gives a power that is at least k
least_from : (times i k j : ℕ) → i ≤ j → k ≤ 2 ^ j → halvings_from times i k ≤ j
least_from zero i k j h l = h
least_from (suc times) i k j h l =
    let later = halvings_from times (suc i) k in
    elim (cases_Bool (leb k (2 ^ i))) [
      | inl t ↦ rw (cond-true {A = ℕ} (leb k (2 ^ i)) i later t) h
      | inr f ↦
          rw (cond-false {A = ℕ} (leb k (2 ^ i)) i later f)
          (least_from times (suc i) k j
          (elim (cases_lt i j) [
            | inl s ↦ s
            | inr s ↦
                let e : i ≡ j = omega arith in
                let m : k ≤ 2 ^ i = rw e l in
                absurd (omega (arith, leb-false k (2 ^ i) f))
          ])
          l)
    ]

-- a row for rank k has room for k elements
pub rank_fits_row : (k : ℕ) → k ≤ row_length k
rank_fits_row k = enough_from k 0 k (let e : 0 + k ≡ k = omega arith in rw e (omega (arith, less_than_power k)))

-- the halvings are the logarithm, rounded up
pub halvings_are_log : (k : ℕ) → IsCeilLog2 k (halvings k)
halvings_are_log k = record { enough = rank_fits_row k; least = λ j h. least_from k 0 k j (omega arith) h }

-- from a window of size 2 ^ j on there are j verdicts, whoever judges
pub length-judged_verdicts : (judge : OfSides → PairVerdict) (offsets : OfSides) (j : ℕ) → length (judged_verdicts judge offsets j) ≡ j
length-judged_verdicts judge offsets zero = refl
length-judged_verdicts judge offsets (suc j) =
    let verdict = judge (λ side. offsets side + 2 ^ j) in
    ap suc (length-judged_verdicts judge (λ side. moved side verdict (2 ^ j) (offsets side)) j)

-- half of a power of two is the power before it
pub half_of_power : (j : ℕ) → half (2 ^ suc j) ≡ 2 ^ j
half_of_power j =
    let e : 2 ^ suc j ≡ 2 * 2 ^ j = omega arith in
    rw e (omega (arith, pow_pos j))
