-- Traces of a pair that the history law forbids. Two lists of 3 elements are declared, for rank 4; elements are numbers. What an
-- honest A has is 12, 40, 55, and B has 20, 31, 70.
use Rattle.std.specs.Prelude.{ℕ, [], ◌∷◌, Some, None, Ok, Err, Result, nat_lt}
use Rattle.elements.specs.declared.entry.Entry.TheVariants.{Element}
use Rattle.faults.specs.declared.fault.RunFault.{RunFault}
use Rattle.faults.specs.declared.fault.RunFault.TheVariants.{Own}
use Rattle.faults.specs.declared.seat.Seat.TheVariants as Seats
use Rattle.faults.specs.declared.refusal.Refusal.TheVariants.{NotItsTurn, Impossible, ReportMissing, StockEmpty}
use Rattle.pair.specs.declared.side.Side.{Side}
use Rattle.pair.specs.declared.side.Side.TheVariants.{A, B}
use Rattle.referees.specs.declared.verdict.PairVerdict.{PairVerdict}
use Rattle.referees.specs.declared.verdict.PairVerdict.TheVariants.{Before, NotBefore}
use Rattle.runs.specs.HistoryLaw.{HistoryLaw}
use Rattle.runs.specs.Learning.{TellsTheSame}
use Rattle.runs.specs.Traces.{reported, stepped, finished, broken_off}
use Rattle.pair.specs.Bisection.{by_side}
use Rattle.pair.specs.Histories.{PairTrace, PairEvent}
use Rattle.pair.specs.PairProtocol.{pair_protocol}

-- the law cannot hold of a trace
abbrev pub Forbids : PairTrace ℕ → Type 0
Forbids trace = HistoryLaw (pair_protocol nat_lt (by_side 3 3) 4) trace → ⊥

-- nor of one for rank 2 of two lists of one element
abbrev pub ForbidsOfTwo : PairTrace ℕ → Type 0
ForbidsOfTwo trace = HistoryLaw (pair_protocol nat_lt (by_side 1 1) 2) trace → ⊥

-- a side's report of an element, accepted, or refused as impossible or out of turn
abbrev pub gives : Side → ℕ → PairEvent ℕ
gives side x = reported side (Element x) (Ok tt)

abbrev pub is_impossible : Result (Unit {0}) RunFault
is_impossible = Err (Own Impossible (Some Seats.A))

abbrev pub is_not_its_turn : Result (Unit {0}) RunFault
is_not_its_turn = Err (Own NotItsTurn (Some Seats.A))

-- a step and a finish, refused for a report that is missing, and for an empty stock
abbrev pub is_missing : {X : Type 0} → Result X RunFault
is_missing = Err (Own ReportMissing None)

abbrev pub is_empty : {X : Type 0} → Result X RunFault
is_empty = Err (Own StockEmpty None)

-- a finish with a referee of some stock, accepted with this result and count
abbrev pub ends_with : (stock result count : ℕ) → PairEvent ℕ
ends_with stock result count = finished (Some stock) (Ok (record { result = result; count = count }))

-- both seats' honest first reports, and what the referee, with a stock of 9, is said to answer
abbrev pub first_reports : PairTrace ℕ
first_reports = gives B 31 ∷ gives A 40 ∷ []

abbrev pub first_round : PairVerdict → PairTrace ℕ
first_round verdict = stepped 9 (Ok verdict) ∷ first_reports

-- after the true first verdict, 0, their second reports and what the referee is said to answer
abbrev pub second_round : PairVerdict → PairTrace ℕ
second_round verdict = stepped 8 (Ok verdict) ∷ gives B 70 ∷ gives A 12 ∷ first_round NotBefore

-- after the true second verdict, 1, their last reports
abbrev pub last_reports : PairTrace ℕ
last_reports = gives B 70 ∷ gives A 40 ∷ second_round Before

pub record PairLawForbids : Type 0 where
  -- a possible report refused as impossible, or as out of turn
  pub refuses_possible : Forbids (reported A (Element 40) is_impossible ∷ [])
  pub refuses_in_turn : Forbids (reported A (Element 40) is_not_its_turn ∷ [])
  -- an impossible report accepted: 55 at place 1, after 40 at place 2
  pub accepts_impossible : Forbids (gives A 55 ∷ first_round NotBefore)
  -- a second report in one round accepted, or refused as impossible
  pub accepts_out_of_turn : Forbids (gives A 40 ∷ gives A 40 ∷ [])
  pub refuses_out_of_turn : Forbids (reported A (Element 40) is_impossible ∷ gives A 40 ∷ [])
  -- a result of another rank, and counts that nobody made, at the finish and at a break-off
  pub other_result : Forbids (ends_with 7 31 2 ∷ last_reports)
  pub wrong_count : Forbids (ends_with 7 40 3 ∷ last_reports)
  pub wrong_break_off : Forbids (broken_off 2 ∷ first_round NotBefore)
  -- always the verdict 1: 40 is not before 31
  pub same_verdict : Forbids (first_round Before)
  -- a true first verdict and a guess after it: 12 is before 70
  pub guessed_verdict : Forbids (second_round NotBefore)
  -- the verdict 1 on equal elements, of which neither is before the other
  pub other_verdict_on_equals : ForbidsOfTwo (stepped 9 (Ok Before) ∷ gives B 31 ∷ gives A 31 ∷ [])
  -- a finish while verdicts are still owed
  pub early_finish : Forbids (ends_with 8 40 1 ∷ gives B 70 ∷ gives A 12 ∷ first_round NotBefore)
  -- a step accepted while a report is missing, or with stock 0
  pub steps_unreported : Forbids (stepped 9 (Ok NotBefore) ∷ gives A 40 ∷ [])
  pub steps_unpaid : Forbids (stepped 0 (Ok NotBefore) ∷ first_reports)
  -- one refused 15 though both have reported, 16 with stock 1, and 16 while a report is missing, which comes first
  pub refuses_reported : Forbids (stepped 9 is_missing ∷ first_reports)
  pub refuses_paid : Forbids (stepped 1 is_empty ∷ first_reports)
  pub empty_before_missing : Forbids (stepped 0 is_empty ∷ gives A 40 ∷ [])
  -- the same of a finish
  pub finishes_unreported : Forbids (ends_with 7 40 2 ∷ gives A 40 ∷ second_round Before)
  pub finishes_unpaid : Forbids (ends_with 0 40 2 ∷ last_reports)
  pub refuses_finish_reported : Forbids (finished (Some 7) is_missing ∷ last_reports)
  pub refuses_finish_paid : Forbids (finished (Some 1) is_empty ∷ last_reports)
  -- a finish that asks nobody, and so hands out the result before the last reports
  pub finishes_unasked : Forbids (finished None (Ok (record { result = 40; count = 2 })) ∷ second_round Before)
  -- two runs that look alike to a seat, and tell it two verdicts
  pub tells_another : TellsTheSame (pair_protocol nat_lt (by_side 3 3) 4) (first_round NotBefore) (first_round Before) → ⊥
