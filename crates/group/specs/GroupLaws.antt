-- What holds of a group's exchange, for every placed type.
use Rattle.std.specs.Prelude.{◌≡◌, ℕ, ◌+◌, ◌-◌, ◌*◌, ◌^◌, ◌<◌, ◌≤◌, Bool, true, List, [], ◌∷◌, ◌++◌, map, length}
use Rattle.std.specs.List.{AllByRecursion as Each, sum}
use Rattle.elements.specs.Ranks.{joint, Ranked}
use Rattle.referees.specs.declared.verdict.GroupVerdict.{GroupVerdict}
use Rattle.referees.specs.declared.verdict.GroupVerdict.TheVariants.{Lower, Higher, Done}
use Rattle.group.specs.SeatCounts.{HasCounts, Within, weighed, verdict_knowing}
use Rattle.group.specs.Exchanges.{Reached, GroupRound, FinishedExchange, round_verdicts, group_reports, ExplainRounds}
use Rattle.group.specs.Ranges.{target, from_after, to_after}
use Rattle.group.specs.Searches.{Search}
use Rattle.group.specs.SeatRules.{first_bounds, bounds_after, Possible, keeps_rules, Round, round, EachPossible, NeverEmpty, reports, Explains}
use Rattle.group.specs.declared.count_bounds.CountBounds.{CountBounds}
use Rattle.group.specs.declared.counts.Counts.{Counts}

-- j is the logarithm of w to the base 2, rounded down
abbrev pub IsFloorLog2 : (w j : ℕ) → Type 0
IsFloorLog2 w j = (2 ^ j ≤ w) × (w < 2 ^ (j + 1))

-- n is at most one more than that logarithm, of which there is one
pub record AtMostLogPlusOne (w n : ℕ) : Type 0 where
  pub logarithm : (j : ℕ) × IsFloorLog2 w j
  pub at_most : (j : ℕ) → IsFloorLog2 w j → n ≤ j + 1

module _ {E : Type 0} (before : E → E → Bool) (place : E → ℕ) where
  -- The weighing of lists within lo to hi has a search; every one of it ends at the place of the element of rank k, within one
  -- round more than the logarithm, rounded down, of the number of places; and its verdicts are those rebuilt from that
  -- place alone.
  pub record FindsRank (lists : List (List E)) (lo hi k : ℕ) (x : E) : Type 0 where
    pub some_search : (verdicts : List GroupVerdict) × Search (weighed place k lists) lo hi verdicts (place x)
    pub ends_there : (verdicts : List GroupVerdict) (m : ℕ) → Search (weighed place k lists) lo hi verdicts m → m ≡ place x
    pub few : (verdicts : List GroupVerdict) (m : ℕ) → Search (weighed place k lists) lo hi verdicts m → AtMostLogPlusOne (hi - lo + 1) (length verdicts)
    pub rebuilt : (verdicts : List GroupVerdict) (m : ℕ) → Search (weighed place k lists) lo hi verdicts m → Search (verdict_knowing (place x)) lo hi verdicts m

  abbrev pub WeighingFindsRank : Type 0
  WeighingFindsRank =
      (lists : List (List E)) (lo hi k : ℕ) (x : E) → Each (Within place lo hi) lists → Ranked before k (joint lists) x → FindsRank lists lo hi k x

-- whatever the seats report, as long as it is accepted: the range is never empty and lies in the first one, and each round
-- halves it at least
abbrev pub RangeIsNeverEmpty : Type 0
RangeIsNeverEmpty =
    (lo hi k : ℕ) (declared : List ℕ) → lo ≤ hi → 1 ≤ k → k ≤ sum declared →
    (a b rounds : ℕ) (seats : List CountBounds) → Reached k declared lo hi a b seats rounds →
    (a ≤ b) × (lo ≤ a) × (b ≤ hi) × ((b - a + 1) * 2 ^ rounds ≤ hi - lo + 1)

-- the test passes exactly what keeps the five rules
pub record TestIsFiveRules : Type 0 where
  pub passed : (a b : ℕ) (seat : CountBounds) (counts : Counts) → keeps_rules a b seat counts ≡ true → Possible a b seat counts
  pub passing : (a b : ℕ) (seat : CountBounds) (counts : Counts) → Possible a b seat counts → keeps_rules a b seat counts ≡ true

-- rounds none of which has the verdict done
abbrev pub NoneDone : List Round → Type 0
NoneDone [] = Unit {0}
NoneDone (round counts Lower ∷ later) = NoneDone later
NoneDone (round counts Higher ∷ later) = NoneDone later
NoneDone (round counts Done ∷ later) = ⊥

-- the range and what is known of a seat after some rounds
pub record Standing : Type 0 where
  pub a : ℕ
  pub b : ℕ
  pub seat : CountBounds

abbrev pub standing_after : Standing → List Round → Standing
standing_after at [] = at
standing_after at (round counts verdict ∷ later) =
    standing_after (record { a = from_after verdict at.a at.b; b = to_after verdict at.a at.b; seat = bounds_after verdict at.seat counts }) later

-- For a type whose places are all numbers from lowest to highest, one to an element, and a range in them: a seat's counts
-- are explained by some list exactly if they were possible in every round.
pub record ExplainedIfPossible {E : Type 0} (place : E → ℕ) (lowest highest : ℕ) : Type 0 where
  pub explained : (lo hi d : ℕ) (rounds : List Round) → lowest ≤ lo → hi ≤ highest → NeverEmpty lo hi rounds →
      EachPossible lo hi (first_bounds d) rounds → (xs : List E) × Explains place lo hi d (reports lo hi rounds) xs
  pub possible : (lo hi d : ℕ) (rounds : List Round) → NeverEmpty lo hi rounds →
      (xs : List E) → Explains place lo hi d (reports lo hi rounds) xs → EachPossible lo hi (first_bounds d) rounds

-- After accepted rounds, the five rules pass new counts exactly if some list explains them together with the earlier ones.
pub record FiveRulesDecide {E : Type 0} (place : E → ℕ) (lowest highest : ℕ) : Type 0 where
  pub explained : (lo hi d : ℕ) (rounds : List Round) (counts : Counts) → lowest ≤ lo → hi ≤ highest →
      NeverEmpty lo hi rounds → NoneDone rounds → EachPossible lo hi (first_bounds d) rounds →
      let now = standing_after (record { a = lo; b = hi; seat = first_bounds d }) rounds in Possible now.a now.b now.seat counts →
      (xs : List E) × Explains place lo hi d (reports lo hi (rounds ++ (round counts Done ∷ []))) xs
  pub possible : (lo hi d : ℕ) (rounds : List Round) (counts : Counts) →
      NeverEmpty lo hi rounds → NoneDone rounds →
      (xs : List E) → Explains place lo hi d (reports lo hi (rounds ++ (round counts Done ∷ []))) xs →
      let now = standing_after (record { a = lo; b = hi; seat = first_bounds d }) rounds in Possible now.a now.b now.seat counts

-- An honest seat is never refused: after rounds whose counts its list explains, the true counts at the next target are
-- possible.
abbrev pub HonestIsPossible : {E : Type 0} → (E → ℕ) → Type 0
HonestIsPossible {E} place =
    (lo hi d : ℕ) (rounds : List Round) → NeverEmpty lo hi rounds → NoneDone rounds →
    (xs : List E) → Explains place lo hi d (reports lo hi rounds) xs → (counts : Counts) →
    let now = standing_after (record { a = lo; b = hi; seat = first_bounds d }) rounds in
    HasCounts (target now.a now.b) (map place xs) counts → Possible now.a now.b now.seat counts

-- Whoever lies: a finished exchange is the search over all lists that explain it, it ended at their element of rank k, within one
-- round more than the logarithm of the number of places, and there are such lists.
pub record FinishedIsSearch {E : Type 0} (before : E → E → Bool) (place : E → ℕ) (lo hi k : ℕ) (declared : List ℕ) (group_rounds : List GroupRound) (m : ℕ) : Type 0 where
  pub some_lists : (lists : List (List E)) × ExplainRounds place lo hi declared (group_reports lo hi group_rounds) lists
  pub search : (lists : List (List E)) → ExplainRounds place lo hi declared (group_reports lo hi group_rounds) lists →
      Search (weighed place k lists) lo hi (round_verdicts group_rounds) m
  pub result : (lists : List (List E)) → ExplainRounds place lo hi declared (group_reports lo hi group_rounds) lists →
      (x : E) × (place x ≡ m) × Ranked before k (joint lists) x
  pub few : AtMostLogPlusOne (hi - lo + 1) (length group_rounds)

abbrev pub EveryFinishedIsSearch : {E : Type 0} → (E → E → Bool) → (E → ℕ) → (lowest highest : ℕ) → Type 0
EveryFinishedIsSearch before place lowest highest =
    (lo hi k : ℕ) (declared : List ℕ) → lowest ≤ lo → lo ≤ hi → hi ≤ highest → 1 ≤ k → k ≤ sum declared →
    (group_rounds : List GroupRound) (m : ℕ) → FinishedExchange k (sum declared) lo hi (map first_bounds declared) group_rounds m →
    FinishedIsSearch before place lo hi k declared group_rounds m
