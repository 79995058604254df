-- Histories of calls on the run of a pair, built from what the contracts of the calls say.
use Rattle.std.specs.Prelude.{ℕ, Bool, [], ◌∷◌, Some, Ok, Err, Result}
use Rattle.elements.specs.declared.entry.Entry.{Entry}
use Rattle.faults.specs.declared.fault.RunFault.{RunFault}
use Rattle.referees.specs.declared.verdict.PairVerdict.{PairVerdict}
use Rattle.pair.specs.declared.side.Side.{Side}
use Rattle.runs.specs.Traces.{Event, reported, stepped, finished, broken_off, Trace}
use Rattle.runs.specs.declared.slip.Slip.{Slip}
use Rattle.pair.specs.PairCalls.{Stepped, Ending, Reports, Steps, Finishes, BreaksOff, progress_of, with_progress, step_answer, finish_answer}
use Rattle.pair.specs.declared.progress.Progress.{Progress}
use Rattle.runs.specs.declared.stage.Closing.{Closing as ClosingStage}
use Rattle.runs.specs.declared.stage.Comparing.{Comparing as ComparingStage}
use Rattle.pair.specs.declared.run.OfPair.{OfPair}
use Rattle.pair.specs.declared.run.Run.{Run}
use Rattle.pair.specs.declared.run.StagedRun.{StagedRun}
use Rattle.pair.specs.declared.run.StagedRun.TheVariants.{Comparing, Closing}

-- a pair's traces: its seats are two sides, which report entries
abbrev pub PairTrace : Type 0 → Type 0
PairTrace T = Trace Side (Entry T) PairVerdict T

abbrev pub PairEvent : Type 0 → Type 0
PairEvent T = Event Side (Entry T) PairVerdict T

-- where a history stands: at a run, or past its end
pub data Now (T : Type 0) : Type 0 where
  going : StagedRun T → Now T
  over : Now T

module _ {T : Type 0} where
  abbrev pub step_leaves : Stepped T → StagedRun T
  step_leaves (Ok advanced) = advanced.run
  step_leaves (Err refused) = Comparing refused.given

  abbrev pub finish_leaves : Ending T → Now T
  finish_leaves (Ok outcome) = over
  finish_leaves (Err refused) = going (Closing refused.given.0)

-- A history of a run just opened, with its trace and where it stands. Each call is given the run as the one before left it,
-- and answers and leaves what its contract says, refused or not; at each the referee, whichever it is, has any stock. An
-- accepted finish or a break-off ends it.
pub data History {T : Type 0} (before : T → T → Bool) (sample : T) (start : StagedRun T) : PairTrace T → Now T → Type 0 where
  opened : History before sample start [] (going start)
  report : {past : PairTrace T} {stage : StagedRun T} (side : Side) (entry : Entry T) (answer : Result (Unit {0}) RunFault) (left : Progress T) →
      History before sample start past (going stage) → Reports before side entry (progress_of stage) answer left →
      History before sample start (reported side entry answer ∷ past) (going (with_progress left stage))
  step : {past : PairTrace T} {run : Run T ComparingStage} (stock : ℕ) (result : Stepped T) →
      History before sample start past (going (Comparing run)) → Steps before run stock result →
      History before sample start (stepped stock (step_answer result) ∷ past) (going (step_leaves result))
  finish : {past : PairTrace T} {run : Run T ClosingStage} (slip : Slip OfPair T) (stock : ℕ) (result : Ending T) →
      History before sample start past (going (Closing run)) → Finishes before sample run slip stock result →
      History before sample start (finished (Some stock) (finish_answer result) ∷ past) (finish_leaves result)
  break_off : {past : PairTrace T} {stage : StagedRun T} (count : ℕ) →
      History before sample start past (going stage) → BreaksOff (progress_of stage) count →
      History before sample start (broken_off count ∷ past) over
