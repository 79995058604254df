-- Exchanges of a group: seats that report whatever they like, as long as each report is accepted, and the verdicts on the
-- sums of what they report.
use Rattle.std.specs.Prelude.{◌≡◌, ℕ, suc, ◌+◌, ◌-◌, List, [], ◌∷◌, map, length}
use Rattle.std.specs.List.{AllByRecursion as Each, AllZip, sum, sum_by}
use Rattle.referees.specs.Verdicts.{weight_of}
use Rattle.referees.specs.declared.verdict.GroupVerdict.{GroupVerdict}
use Rattle.referees.specs.declared.verdict.GroupVerdict.TheVariants.{Lower, Higher, Done}
use Rattle.group.specs.SeatCounts.{HasCounts, Within}
use Rattle.group.specs.Ranges.{target, from_after, to_after}
use Rattle.group.specs.SeatRules.{first_bounds, bounds_after, Possible}
use Rattle.group.specs.declared.count_bounds.CountBounds.{CountBounds}
use Rattle.group.specs.declared.counts.Counts.{Counts}

-- every seat made a possible report, one a seat
abbrev pub AllPossible : (a b : ℕ) → List CountBounds → List Counts → Type 0
AllPossible a b seats reports = AllZip (λ seat counts. Possible a b seat counts) seats reports

-- the verdict on what the seats report, for rank k among n elements
abbrev pub verdict_on : (k n : ℕ) → List Counts → GroupVerdict
verdict_on k n reports = weight_of (sum_by (λ counts. counts.below) reports) (sum_by (λ counts. counts.above) reports) k n

-- what is known of every seat after a verdict
abbrev pub all_known_after : GroupVerdict → List CountBounds → List Counts → List CountBounds
all_known_after verdict [] reports = []
all_known_after verdict (seat ∷ seats) [] = []
all_known_after verdict (seat ∷ seats) (counts ∷ reports) = bounds_after verdict seat counts ∷ all_known_after verdict seats reports

module _ (k : ℕ) (declared : List ℕ) where
  -- accepted rounds, so many and none with the verdict done, lead from the range lo to hi to the range a to b, where this is
  -- known of the seats
  pub data Reached (lo hi : ℕ) : (a b : ℕ) → List CountBounds → (rounds : ℕ) → Type 0 where
    opened : Reached lo hi lo hi (map first_bounds declared) 0
    lowered : {a b rounds : ℕ} {seats : List CountBounds} (reports : List Counts) → Reached lo hi a b seats rounds → AllPossible a b seats reports →
        verdict_on k (sum declared) reports ≡ Lower → Reached lo hi a (target a b - 1) (all_known_after Lower seats reports) (suc rounds)
    raised : {a b rounds : ℕ} {seats : List CountBounds} (reports : List Counts) → Reached lo hi a b seats rounds → AllPossible a b seats reports →
        verdict_on k (sum declared) reports ≡ Higher → Reached lo hi (target a b + 1) b (all_known_after Higher seats reports) (suc rounds)

-- a round of the whole group: what the seats report, and the verdict; lists of group_rounds have the first one first
pub data GroupRound : Type 0 where
  group_round : List Counts → GroupVerdict → GroupRound

-- From the range a to b, where this is known of the seats, these group_rounds finish at the place m: every report is possible when
-- it comes, every verdict is the true one on the sums, and done comes last.
pub data FinishedExchange (k n : ℕ) : (a b : ℕ) → List CountBounds → List GroupRound → (m : ℕ) → Type 0 where
  done : {a b : ℕ} {seats : List CountBounds} (reports : List Counts) → AllPossible a b seats reports → verdict_on k n reports ≡ Done →
      FinishedExchange k n a b seats (group_round reports Done ∷ []) (target a b)
  lower : {a b m : ℕ} {seats : List CountBounds} {later : List GroupRound} (reports : List Counts) → AllPossible a b seats reports → verdict_on k n reports ≡ Lower →
      FinishedExchange k n a (target a b - 1) (all_known_after Lower seats reports) later m → FinishedExchange k n a b seats (group_round reports Lower ∷ later) m
  higher : {a b m : ℕ} {seats : List CountBounds} {later : List GroupRound} (reports : List Counts) → AllPossible a b seats reports → verdict_on k n reports ≡ Higher →
      FinishedExchange k n (target a b + 1) b (all_known_after Higher seats reports) later m → FinishedExchange k n a b seats (group_round reports Higher ∷ later) m

-- the verdicts of some group_rounds
abbrev pub round_verdicts : List GroupRound → List GroupVerdict
round_verdicts [] = []
round_verdicts (group_round reports verdict ∷ later) = verdict ∷ round_verdicts later

-- what the seats report, with the target
pub record RoundReports : Type 0 where
  pub target : ℕ
  pub counts : List Counts

-- what was reported in some group_rounds, with the targets, which follow from the verdicts
abbrev pub group_reports : (a b : ℕ) → List GroupRound → List RoundReports
group_reports a b [] = []
group_reports a b (group_round reports verdict ∷ later) =
    record { target = target a b; counts = reports } ∷ group_reports (from_after verdict a b) (to_after verdict a b) later

-- lists, one a seat, explain what was reported: each has its seat's declared length, its places are from lo to hi, and it
-- has its seat's counts at each target
pub record ExplainRounds {E : Type 0} (place : E → ℕ) (lo hi : ℕ) (declared : List ℕ) (reports : List RoundReports) (lists : List (List E)) : Type 0 where
  pub lengths : AllZip (λ d xs. length xs ≡ d) declared lists
  pub within : Each (Within place lo hi) lists
  pub shows : Each (λ r. AllZip (λ xs counts. HasCounts r.target (map place xs) counts) lists r.counts) reports
