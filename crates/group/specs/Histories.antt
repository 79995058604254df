-- Histories of calls on the run of a group, built from what the contracts of the calls say.
use Rattle.std.specs.Prelude.{ℕ, [], ◌∷◌, None, Ok, Err, Result}
use Rattle.faults.specs.declared.fault.RunFault.{RunFault}
use Rattle.referees.specs.declared.verdict.GroupVerdict.{GroupVerdict}
use Rattle.runs.specs.Traces.{reported, stepped, finished, broken_off, Trace}
use Rattle.runs.specs.Finishes.{Outcome}
use Rattle.group.specs.declared.counts.Counts.{Counts}
use Rattle.group.specs.GroupCalls.{Stepped, Reports, Steps, Finishes, BreaksOff, progress_of_run, progress_of, step_answer}
use Rattle.runs.specs.declared.stage.Closing.{Closing as ClosingStage}
use Rattle.runs.specs.declared.stage.Comparing.{Comparing as ComparingStage}
use Rattle.group.specs.declared.run.Run.{Run}
use Rattle.group.specs.declared.run.StagedRun.{StagedRun}
use Rattle.group.specs.declared.run.StagedRun.TheVariants.{Comparing, Closing}

-- a group's traces: its seats have numbers from 1, and report counts
abbrev pub GroupTrace : Type 0 → Type 0
GroupTrace T = Trace ℕ Counts GroupVerdict T

-- where a history stands: at a run, or past its end
pub data Now (T : Type 0) : Type 0 where
  going : StagedRun T → Now T
  over : Now T

abbrev pub step_leaves : {T : Type 0} → Stepped T → StagedRun T
step_leaves (Ok advanced) = advanced.run
step_leaves (Err refused) = Comparing refused.given

-- A history of a run just opened, with its trace and where it stands. Each call is given the run as the one before left it,
-- and answers and leaves what its contract says, refused or not; at each the referee, whichever it is, has any stock. A finish
-- or a break-off ends it. The type's places are given by the place of an element, the lowest and the highest.
pub data History {T : Type 0} (place : T → ℕ) (lowest highest : ℕ) (sample : T) (start : Run T ComparingStage) : GroupTrace T → Now T → Type 0 where
  opened : History place lowest highest sample start [] (going (Comparing start))
  report : {past : GroupTrace T} {run left : Run T ComparingStage} (number : ℕ) (counts : Counts) (answer : Result (Unit {0}) RunFault) →
      History place lowest highest sample start past (going (Comparing run)) → Reports number counts (progress_of_run run) answer (progress_of_run left) →
      History place lowest highest sample start (reported number counts answer ∷ past) (going (Comparing left))
  step : {past : GroupTrace T} {run : Run T ComparingStage} (stock : ℕ) (result : Stepped T) →
      History place lowest highest sample start past (going (Comparing run)) → Steps run stock result →
      History place lowest highest sample start (stepped stock (step_answer result) ∷ past) (going (step_leaves result))
  finish : {past : GroupTrace T} {run : Run T ClosingStage} (ending : Outcome T) →
      History place lowest highest sample start past (going (Closing run)) → Finishes place lowest highest sample (progress_of_run run) ending →
      History place lowest highest sample start (finished None (Ok ending) ∷ past) over
  break_off : {past : GroupTrace T} {stage : StagedRun T} (count : ℕ) →
      History place lowest highest sample start past (going stage) → BreaksOff (progress_of stage) count →
      History place lowest highest sample start (broken_off count ∷ past) over
