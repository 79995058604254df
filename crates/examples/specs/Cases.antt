-- The worked cases of both protocols as one table, which one computation tries.
use Rattle.std.specs.Prelude.{◌≡◌, ℕ, ◌+◌, ◌-◌, ◌^◌, Bool, true, false, not, ◌&&◌, List, [], ◌∷◌, map, Some, None, Option, ◌==◌, nat_lt, nat_le}
use Rattle.std.proofs.Common.{lit≤, refl}
use Rattle.pair.specs.PairCalls.{report_refusal as pair_report_refusal, with_given, IsOpened, Moves}
use Rattle.pair.specs.Rebuilds.{rebuilt}
use Rattle.pair.specs.SeatStates.{new_seat as new_pair_seat, seat_after as pair_seat_after}
use Rattle.pair.specs.Bisection.{by_side, pair_verdicts, pair_result}
use Rattle.pair.specs.declared.progress.Progress.{Progress}
use Rattle.pair.specs.declared.side.Side.{Side}
use Rattle.pair.specs.declared.side.Side.TheVariants.{A, B}
use Rattle.elements.specs.declared.entry.Entry.{Entry}
use Rattle.elements.specs.declared.entry.Entry.TheVariants.{Below, Element, Above}
use Rattle.faults.specs.RefusalNumbers.{number_of}
use Rattle.faults.specs.declared.refusal.Refusal.{Refusal}
use Rattle.referees.specs.Verdicts.{verdict_number}
use Rattle.referees.specs.declared.verdict.GroupVerdict.{GroupVerdict}
use Rattle.referees.specs.declared.verdict.GroupVerdict.TheVariants.{Lower, Higher, Done}
use Rattle.referees.specs.declared.verdict.PairVerdict.{PairVerdict}
use Rattle.referees.specs.declared.verdict.PairVerdict.TheVariants.{NotBefore}
use Rattle.group.specs.GroupCalls.{State, opened_state, moved_state, reported_state, report_refusal as group_report_refusal}
use Rattle.group.specs.SeatCounts.{weighed, verdict_knowing}
use Rattle.group.specs.SeatValues.{SeatValue, seat_number}
use Rattle.group.specs.Ranges.{target, from_after, to_after}
use Rattle.group.specs.declared.counts.Counts.{Counts}

-- A round of a group: the target and the verdict.
pub record AtTarget : Type 0 where
  pub at : ℕ
  pub says : GroupVerdict

pub data Case : Type 0 where
  -- two lists, a rank, the verdicts as 1 and 0, and the result
  pair : (a b : List ℕ) → (k : ℕ) → (verdicts : List ℕ) → (result : ℕ) → Case
  -- the verdicts that a side rebuilds from its list and the result
  rebuilds : Side → (xs : List ℕ) → (k x : ℕ) → (verdicts : List ℕ) → Case
  -- to a run that has come so far, a side's report of x: the number with which it is refused, or none
  reports : Progress ℕ → Side → (x : ℕ) → (refused : List ℕ) → Case
  -- lists of places within lo to hi, a rank, the rounds, and the result
  group : (lists : List (List ℕ)) → (lo hi k : ℕ) → List AtTarget → (result : ℕ) → Case
  -- to a run that has come so far, the counts of the seat of a number: the number with which they are refused, or none
  counts : State → (number : ℕ) → Counts → (refused : List ℕ) → Case
  -- these counts keep the first three rules all the same: they fit the length, and are no smaller than what is known
  first_three_pass : State → (number : ℕ) → Counts → Case
  -- the first target from lo to hi
  targets : (lo hi m : ℕ) → Case

abbrev same_numbers : List ℕ → List ℕ → Bool
same_numbers [] [] = true
same_numbers [] (y ∷ ys) = false
same_numbers (x ∷ xs) [] = false
same_numbers (x ∷ xs) (y ∷ ys) = let rest = same_numbers xs ys in (x == y) && rest

abbrev same_verdict : GroupVerdict → GroupVerdict → Bool
same_verdict Lower Lower = true
same_verdict Lower Higher = false
same_verdict Lower Done = false
same_verdict Higher Lower = false
same_verdict Higher Higher = true
same_verdict Higher Done = false
same_verdict Done Lower = false
same_verdict Done Higher = false
same_verdict Done Done = true

-- the number with which a report is refused, if it is
abbrev number_if_refused : Option Refusal → List ℕ
number_if_refused None = []
number_if_refused (Some refusal) = number_of refusal ∷ []

abbrev is_element : ℕ → Entry ℕ → Bool
is_element x Below = false
is_element x (Element y) = x == y
is_element x Above = false

abbrev numbers : List PairVerdict → List ℕ
numbers verdicts = map verdict_number verdicts

-- the rounds of a judge from the range a to b are these, and the last target, where the verdict is done, is m
abbrev rounds_are : (ℕ → GroupVerdict) → (a b : ℕ) → List AtTarget → (m : ℕ) → Bool
rounds_are judge a b [] m = false
rounds_are judge a b (round ∷ []) m = (target a b == round.at) && (same_verdict (judge round.at) Done && (same_verdict round.says Done && (round.at == m)))
rounds_are judge a b (round ∷ (next ∷ later)) m =
    let rest = rounds_are judge (from_after round.says a b) (to_after round.says a b) (next ∷ later) m in
    (target a b == round.at) && (same_verdict (judge round.at) round.says && (not (same_verdict round.says Done) && rest))

abbrev first_three : Option SeatValue → Counts → Bool
first_three None given = false
first_three (Some seat) given =
    nat_le (given.below + given.above) seat.known.declared && (nat_le seat.known.low given.below && nat_le seat.known.high given.above)

abbrev pub holds : Case → Bool
holds (pair a b k verdicts result) =
    same_numbers (numbers (pair_verdicts nat_lt k (by_side a b))) verdicts && is_element result (pair_result nat_lt k (by_side a b))
holds (rebuilds side xs k x verdicts) = same_numbers (numbers (rebuilt nat_lt side k xs x)) verdicts
holds (reports progress side x refused) = same_numbers (number_if_refused (pair_report_refusal nat_lt side (Element x) progress)) refused
-- as the lists weigh, and as whoever knows the result alone says
holds (group lists lo hi k rounds result) =
    rounds_are (weighed (λ x. x) k lists) lo hi rounds result && rounds_are (verdict_knowing result) lo hi rounds result
holds (counts state number given refused) = same_numbers (number_if_refused (group_report_refusal number given state)) refused
holds (first_three_pass state number given) = first_three (seat_number state.seats number) given
holds (targets lo hi m) = target lo hi == m

abbrev all_hold : List Case → Bool
all_hold [] = true
all_hold (case ∷ cases) = let rest = all_hold cases in holds case && rest

abbrev list_a : List ℕ
list_a = 12 ∷ 40 ∷ 55 ∷ []

abbrev list_b : List ℕ
list_b = 20 ∷ 31 ∷ 70 ∷ []

-- a run over both for rank 4, as it is opened
abbrev pub opened_for_4 : Progress ℕ
opened_for_4 = record {
  window = record { rank = 4; a = 0; b = 0; size = 4; row = 4; for_rank = refl; small = lit≤ tt; power = (2, refl); within = refl };
  made = 0;
  a = new_pair_seat 3;
  b = new_pair_seat 3;
}

-- once A has reported 40, and B 31
abbrev a_reported : Progress ℕ
a_reported = with_given A (Element 40) opened_for_4

abbrev pub both_reported : Progress ℕ
both_reported = with_given B (Element 31) a_reported

-- and after the verdict 0 on them: A is asked for place 1
abbrev pub after_0 : Progress ℕ
after_0 = record {
  window = record { rank = 4; a = 0; b = 2; size = 2; row = 4; for_rank = refl; small = lit≤ tt; power = (1, refl); within = refl };
  made = 1;
  a = pair_seat_after A NotBefore both_reported.a;
  b = pair_seat_after B NotBefore both_reported.b;
}

abbrev three_seats : List (List ℕ)
three_seats = (3 ∷ 9 ∷ []) ∷ (4 ∷ []) ∷ (9 ∷ 12 ∷ []) ∷ []

abbrev at_target : ℕ → GroupVerdict → AtTarget
at_target m verdict = record { at = m; says = verdict }

abbrev counted : (below above : ℕ) → Counts
counted below above = record { below = below; above = above }

-- a run that has taken the counts of the seat of a number
abbrev taken : (number : ℕ) → Counts → State → State
taken number given old = of_seat (seat_number old.seats number)
  where
    of_seat : Option SeatValue → State
    of_seat None = old
    of_seat (Some seat) = reported_state number given seat old

-- and of all three, with a verdict
abbrev after_round : GroupVerdict → Counts → Counts → Counts → State → State
after_round verdict one two three old = moved_state verdict (taken 3 three (taken 2 two (taken 1 one old)))

-- the run over the three seats for rank 3, after the honest counts at 8, at 12 and at 10: all that is left is 9
abbrev at_9 : State
at_9 =
    after_round Lower (counted 2 0) (counted 1 0) (counted 1 1)
    (after_round Lower (counted 2 0) (counted 1 0) (counted 1 0)
    (after_round Higher (counted 1 1) (counted 1 0) (counted 0 2) (opened_state (2 ∷ 1 ∷ 2 ∷ []) 0 15 3)))

abbrev pub table : List Case
table =
    pair list_a list_b 1 [] 12
    ∷ pair list_a list_b 3 (1 ∷ 0 ∷ []) 31
    ∷ pair list_a list_b 4 (0 ∷ 1 ∷ []) 40
    ∷ pair list_a list_b 6 (1 ∷ 0 ∷ 1 ∷ []) 70
    ∷ pair [] list_b 2 (0 ∷ []) 31
    -- equal elements: A rebuilds the verdicts, and B does not
    ∷ pair (31 ∷ []) (31 ∷ []) 2 (0 ∷ []) 31
    ∷ rebuilds A (31 ∷ []) 2 31 (0 ∷ [])
    ∷ rebuilds B (31 ∷ []) 2 31 (1 ∷ [])
    -- A, who reported 40 at place 2 and reports once a round, is then asked for place 1: 55 cannot stand there, and 40 can
    ∷ reports opened_for_4 A 40 []
    ∷ reports a_reported A 40 (13 ∷ [])
    ∷ reports after_0 A 55 (14 ∷ [])
    ∷ reports after_0 A 40 []
    ∷ group three_seats 0 15 3 (at_target 8 Higher ∷ at_target 12 Lower ∷ at_target 10 Lower ∷ at_target 9 Done ∷ []) 9
    -- at the last target seat 1 cannot have two places below, though the first three rules pass
    ∷ counts at_9 1 (counted 2 0) (14 ∷ [])
    ∷ first_three_pass at_9 1 (counted 2 0)
    ∷ counts at_9 1 (counted 1 0) []
    ∷ counts (taken 1 (counted 1 0) at_9) 1 (counted 1 0) (13 ∷ [])
    ∷ counts at_9 4 (counted 1 0) (13 ∷ [])
    ∷ group ((7 ∷ []) ∷ (7 ∷ []) ∷ []) 7 7 1 (at_target 7 Done ∷ []) 7
    ∷ targets 0 (2 ^ 64 - 1) (2 ^ 63)
    ∷ []

-- every case of the table comes out as it stands there
abbrev pub EveryCaseHolds : Type 0
EveryCaseHolds = all_hold table ≡ true

-- and the pair's run of it is as the calls leave one: opened for rank 4 of two lists of 3, and moved by the verdict 0
pub record CallsLeadThere : Type 0 where
  pub opened : IsOpened (by_side 3 3) 4 opened_for_4
  pub moved : Moves both_reported NotBefore after_0
