-- Logarithms to the base 2.
use Rattle.std.proofs.Common.{◌≡◌, ℕ, zero, suc, ◌+◌, ◌^◌, ◌<◌, ◌≤◌, inl, inr, arith}
use Rattle.std.proofs.lemmas.Bool.{cases_lt}
use Rattle.elements.proofs.Powers.{less_than_power}
use Rattle.group.specs.GroupLaws.{IsFloorLog2, AtMostLogPlusOne}

-- a number from 1 on that is smaller than a power of two has a logarithm
log_below : (w j : ℕ) → 1 ≤ w → w < 2 ^ j → (i : ℕ) × IsFloorLog2 w i
log_below w zero one h = absurd (omega arith)
log_below w (suc j) one h =
    elim (cases_lt w (2 ^ j)) [
      | inl l ↦ log_below w j one l
      | inr g ↦ let e : j + 1 ≡ suc j = omega arith in (j, (g, rw e h))
    ]

-- what is at most every j where w is smaller than 2 ^ j is at most one more than the logarithm of w
pub at_most_log_plus_one : (w n : ℕ) → 1 ≤ w → ((j : ℕ) → w < 2 ^ j → n ≤ j) → AtMostLogPlusOne w n
at_most_log_plus_one w n one few = record { logarithm = log_below w w one (less_than_power w); at_most = λ j h. few (j + 1) h.1 }
