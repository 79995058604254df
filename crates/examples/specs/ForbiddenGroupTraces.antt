-- Traces of a group that the history law forbids. Three seats declare 2, 1 and 2 elements from 0 to 15, for rank 3; elements are
-- numbers, and their places too. What honest seats have is 3, 9, and 4, and 9, 12.
use Rattle.std.specs.Prelude.{ℕ, [], ◌∷◌, Some, None, Ok, Err, Result, nat_lt}
use Rattle.faults.specs.declared.fault.RunFault.{RunFault}
use Rattle.faults.specs.declared.fault.RunFault.TheVariants.{Own}
use Rattle.faults.specs.declared.seat.Seat.TheVariants.{Numbered}
use Rattle.faults.specs.declared.refusal.Refusal.{Refusal}
use Rattle.faults.specs.declared.refusal.Refusal.TheVariants.{NotItsTurn, Impossible, ReportMissing, StockEmpty}
use Rattle.group.specs.GroupProtocol.{group_protocol}
use Rattle.group.specs.Histories.{GroupTrace}
use Rattle.referees.specs.declared.verdict.GroupVerdict.{GroupVerdict}
use Rattle.referees.specs.declared.verdict.GroupVerdict.TheVariants.{Lower, Higher, Done}
use Rattle.runs.specs.Finishes.{Outcome}
use Rattle.runs.specs.HistoryLaw.{HistoryLaw}
use Rattle.runs.specs.Traces.{reported, stepped, finished, broken_off}
use Rattle.group.specs.declared.counts.Counts.{Counts}

-- a number is its own place
abbrev pub itself : ℕ → ℕ
itself x = x

-- the law cannot hold of a trace
abbrev pub Forbids : GroupTrace ℕ → Type 0
Forbids trace = HistoryLaw (group_protocol nat_lt itself (2 ∷ 1 ∷ 2 ∷ []) 0 15 3) trace → ⊥

abbrev pub counts : (below above : ℕ) → Counts
counts below above = record { below = below; above = above }

-- how seat 1's report is refused
abbrev pub refused : Refusal → Result (Unit {0}) RunFault
refused refusal = Err (Own refusal (Some (Numbered 1)))

-- how a step is refused
abbrev pub step_refused : Refusal → Result GroupVerdict RunFault
step_refused refusal = Err (Own refusal None)

-- an accepted finish
abbrev pub ended : (element count : ℕ) → Result (Outcome ℕ) RunFault
ended element count = Ok (record { result = element; count = count })

-- the three seats' counts, accepted, after some rounds, and with what a referee with one verdict left is said to answer
abbrev pub all_report : Counts → Counts → Counts → GroupTrace ℕ → GroupTrace ℕ
all_report one two three past = reported 3 three (Ok tt) ∷ reported 2 two (Ok tt) ∷ reported 1 one (Ok tt) ∷ past

abbrev pub round : Counts → Counts → Counts → GroupVerdict → GroupTrace ℕ → GroupTrace ℕ
round one two three verdict past = stepped 1 (Ok verdict) ∷ all_report one two three past

-- the honest reports at 8, of two seats and of all three
abbrev pub two_reported : GroupTrace ℕ
two_reported = reported 2 (counts 1 0) (Ok tt) ∷ reported 1 (counts 1 1) (Ok tt) ∷ []

abbrev pub all_reported : GroupTrace ℕ
all_reported = all_report (counts 1 1) (counts 1 0) (counts 0 2) []

-- the honest rounds at 8 and at 12, with what the referee is said to answer
abbrev pub at_8 : GroupVerdict → GroupTrace ℕ
at_8 verdict = round (counts 1 1) (counts 1 0) (counts 0 2) verdict []

abbrev pub at_12 : GroupVerdict → GroupTrace ℕ
at_12 verdict = round (counts 2 0) (counts 1 0) (counts 1 0) verdict (at_8 Higher)

-- and those at 10 and at 9, the last
abbrev pub at_10 : GroupTrace ℕ
at_10 = round (counts 2 0) (counts 1 0) (counts 1 1) Lower (at_12 Lower)

abbrev pub at_9 : GroupTrace ℕ
at_9 = round (counts 1 0) (counts 1 0) (counts 0 1) Done at_10

pub record GroupLawForbids : Type 0 where
  -- possible counts refused as impossible, or as out of turn
  pub refuses_possible : Forbids (reported 1 (counts 1 1) (refused Impossible) ∷ [])
  pub refuses_in_turn : Forbids (reported 1 (counts 1 1) (refused NotItsTurn) ∷ [])
  -- impossible counts accepted, which only the rule at the edge of the range keeps out: two places below 9
  pub accepts_impossible : Forbids (reported 1 (counts 2 0) (Ok tt) ∷ at_10)
  -- a second report in one round accepted, and one of a seat that there is not
  pub accepts_out_of_turn : Forbids (reported 1 (counts 1 1) (Ok tt) ∷ reported 1 (counts 1 1) (Ok tt) ∷ [])
  pub accepts_unknown_seat : Forbids (reported 4 (counts 1 1) (Ok tt) ∷ [])
  -- a result of another rank, and counts that nobody made, at the finish and at a break-off
  pub other_result : Forbids (finished None (ended 4 4) ∷ at_9)
  pub wrong_count : Forbids (finished None (ended 9 3) ∷ at_9)
  pub wrong_break_off : Forbids (broken_off 2 ∷ at_8 Higher)
  -- always the verdict lower: at 8 the element of rank 3 is above
  pub same_verdict : Forbids (at_8 Lower)
  -- a true first verdict and a guess after it: at 12 it is below
  pub guessed_verdict : Forbids (at_12 Higher)
  -- a finish before the verdict is done, and one refused
  pub early_finish : Forbids (finished None (ended 9 2) ∷ at_12 Lower)
  pub refuses_finish : Forbids (finished None (Err (Own ReportMissing None)) ∷ at_9)
  -- and one that asks a referee, and so is refused for want of reports
  pub asks_at_finish : Forbids (finished (Some 1) (Err (Own ReportMissing None)) ∷ at_9)
  -- a verdict on two reports of three, and one of a referee with an empty stock
  pub steps_unreported : Forbids (stepped 1 (Ok Higher) ∷ two_reported)
  pub steps_unpaid : Forbids (stepped 0 (Ok Higher) ∷ all_reported)
  -- a step refused as if a report were missing where none is, or as if the stock were empty where it is 1
  pub refuses_reported : Forbids (stepped 1 (step_refused ReportMissing) ∷ all_reported)
  pub refuses_paid : Forbids (stepped 1 (step_refused StockEmpty) ∷ all_reported)
  -- one refused for an empty stock while a report is missing, which comes first
  pub empty_before_missing : Forbids (stepped 0 (step_refused StockEmpty) ∷ two_reported)
