-- What a verdict that is not done leaves of the range: places with the rank among them, and half of them at most.
use Rattle.std.proofs.Common.{◌≡◌, ℕ, suc, ◌+◌, ◌-◌, ◌*◌, ◌^◌, ◌<◌, ◌≤◌, List, inl, inr, mul-le-mul_right, arith}
use Rattle.std.proofs.Math.Pow.{pow-lt}
use Rattle.std.proofs.lemmas.Bool.{cases_lt}
use Rattle.referees.specs.declared.verdict.GroupVerdict.{GroupVerdict}
use Rattle.referees.specs.declared.verdict.GroupVerdict.TheVariants.{Lower, Higher, Done}
use Rattle.group.specs.Exchanges.{AllPossible, verdict_on, all_known_after}
use Rattle.group.specs.Ranges.{target, from_after, to_after, LeavesPlace}
use Rattle.group.specs.declared.counts.Counts.{Counts}
use Rattle.group.specs.declared.count_bounds.CountBounds.{CountBounds}
use Rattle.group.proofs.NeverEmpty.{RankInRange, in_range_lower, in_range_higher, halves}

-- a verdict is not done
abbrev pub GoesOn : GroupVerdict → Type 0
GoesOn Lower = Unit {0}
GoesOn Higher = Unit {0}
GoesOn Done = ⊥

-- on possible reports it leaves places in the range, and the rank among them
pub in_range_after : (k n a b : ℕ) (verdict : GroupVerdict) (seats : List CountBounds) (reports : List Counts) → GoesOn verdict →
    RankInRange k n a b seats → AllPossible a b seats reports → verdict_on k n reports ≡ verdict →
    LeavesPlace verdict a b × RankInRange k n (from_after verdict a b) (to_after verdict a b) (all_known_after verdict seats reports)
in_range_after k n a b Lower seats reports on i p e = in_range_lower k n a b seats reports i p e
in_range_after k n a b Higher seats reports on i p e = in_range_higher k n a b seats reports i p e
in_range_after k n a b Done seats reports on i p e = absurd on

-- it leaves at most half of the places
pub halved_after : (a b rounds w : ℕ) (verdict : GroupVerdict) → GoesOn verdict → a ≤ b → LeavesPlace verdict a b →
    (b - a + 1) * 2 ^ rounds ≤ w → (to_after verdict a b - from_after verdict a b + 1) * 2 ^ suc rounds ≤ w
halved_after a b rounds w Lower on order place h =
    let m = target a b in
    let room : a < m = place in
    halves (m - 1 - a + 1) (b - a + 1) rounds w (omega arith) h
halved_after a b rounds w Higher on order place h =
    let m = target a b in
    let room : m < b = place in
    halves (b - (m + 1) + 1) (b - a + 1) rounds w (omega arith) h
halved_after a b rounds w Done on order place h = absurd on

-- what is still not empty once it was halved so many times, from 64 bits on, was halved at most 64 times
pub few_halvings : (w rounds : ℕ) → 1 ≤ w → w * 2 ^ rounds ≤ 2 ^ 64 → rounds ≤ 64
few_halvings w rounds one h =
    elim (cases_lt 64 rounds) [
      | inl l ↦ absurd (omega (arith, pow-lt l, mul-le-mul_right (2 ^ rounds) one))
      | inr g ↦ g
    ]
