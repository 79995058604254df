-- Where a history stands, a run stands to its trace, or has closed after it.
use Rattle.std.proofs.Common.{◌≡◌, ℕ, [], ◌∷◌, length, Ok, Err, sym, ap, ap₂, subst}
use Rattle.referees.specs.declared.verdict.GroupVerdict.{GroupVerdict}
use Rattle.referees.specs.declared.verdict.GroupVerdict.TheVariants.{Lower, Higher, Done}
use Rattle.runs.specs.Traces.{stepped, broken_off, verdicts}
use Rattle.group.specs.GroupCalls.{Stepped, State, state_of, opened_state, moved_state, Steps, IsStageAfter, progress_of_run, progress_of, limits_of, range_of, step_answer}
use Rattle.group.specs.GroupHistoryLaw.{ends_of, Shows}
use Rattle.group.specs.GroupProtocol.{Left, left_after}
use Rattle.group.specs.Ranges.{target}
use Rattle.group.specs.declared.progress.Progress.{Progress}
use Rattle.group.specs.Histories.{GroupTrace, Now, going, over, History, opened, report, step, finish, break_off, step_leaves}
use Rattle.runs.specs.declared.stage.Comparing.{Comparing as ComparingStage}
use Rattle.group.specs.declared.run.Run.{Run}
use Rattle.group.specs.declared.run.StagedRun.{StagedRun}
use Rattle.group.specs.declared.run.StagedRun.TheVariants.{Comparing, Closing}
use Rattle.group.proofs.ReportAnswers.{WeighsAll, step_weighs}
use Rattle.group.proofs.ClosedRuns.{ClosedAfter, after_done}
use Rattle.group.proofs.Openings.{Group, Allowed}
use Rattle.group.proofs.AfterReport.{after_report}
use Rattle.group.proofs.RunStands.{After, after_opening}
use Rattle.group.proofs.AfterStep.{after_verdict}

module _ {T : Type 0} (g : Group T) where
  -- a run that has come so far shows the range to which the verdicts lead
  shows_by : (progress : Progress) (trace : GroupTrace T) → (limits_of progress).from ≡ g.lo → (limits_of progress).to ≡ g.hi →
      left_after g.lo g.hi (verdicts trace) ≡ ends_of (range_of progress) → Shows g.lo g.hi progress trace
  shows_by progress trace from_lo to_hi left_is = record {
    limits_are = ap₂ {C = Left} (λ (a b : ℕ). record { a = a; b = b }) from_lo to_hi;
    range_is = sym left_is;
    target_is = ap (λ (left : Left). target left.a left.b) (sym left_is);
  }

  -- the round of a run that compares stands to a trace, and that of one that closes is closed after it
  abbrev pub AtStage : StagedRun T → GroupTrace T → Type 0
  AtStage (Comparing run) trace = After g (state_of run.progress) trace
  AtStage (Closing run) trace = ClosedAfter g (state_of run.progress) trace

  -- a break-off keeps it so
  at_break_off : (stage : StagedRun T) (past : GroupTrace T) (count : ℕ) → AtStage stage past →
      AtStage stage (broken_off count ∷ past)
  at_break_off (Comparing run) past count after = after
  at_break_off (Closing run) past count closed = closed

  -- the number of verdicts made is that of the trace's verdicts
  pub made_counted : (stage : StagedRun T) (trace : GroupTrace T) → AtStage stage trace → (progress_of stage).made ≡ length (verdicts trace)
  made_counted (Comparing run) trace after = after.made_is
  made_counted (Closing run) trace closed = closed.made_is

  -- it shows the range to which the verdicts lead, and the one that it was opened with
  pub shows_range : (stage : StagedRun T) (trace : GroupTrace T) → AtStage stage trace → Shows g.lo g.hi (progress_of stage) trace
  shows_range (Comparing run) trace after = shows_by (progress_of_run run) trace after.from_lo after.to_hi after.left_is
  shows_range (Closing run) trace closed = shows_by (progress_of_run run) trace closed.from_lo closed.to_hi closed.left_is

  -- so it is with the run where a history stands, or with its last run where it is over
  abbrev pub StandsAt : Now T → GroupTrace T → Type 0
  StandsAt (going stage) trace = AtStage stage trace
  StandsAt over trace = (stage : StagedRun T) × AtStage stage trace

module _ {T : Type 0} {g : Group T} (allowed : Allowed g) where
  -- a verdict keeps it so
  at_verdict : {old : State} (past : GroupTrace T) (stock : ℕ) (verdict : GroupVerdict) (stage : StagedRun T) → WeighsAll old verdict → IsStageAfter verdict stage →
      state_of (progress_of stage) ≡ moved_state verdict old → After g old past →
      AtStage g stage (stepped stock (Ok verdict) ∷ past)
  at_verdict past stock Lower (Comparing run) w staged moved after =
      subst (λ (now : State). After g now (stepped stock (Ok Lower) ∷ past)) (sym moved) (after_verdict past after w tt stock allowed.in_64_bits)
  at_verdict past stock Higher (Comparing run) w staged moved after =
      subst (λ (now : State). After g now (stepped stock (Ok Higher) ∷ past)) (sym moved) (after_verdict past after w tt stock allowed.in_64_bits)
  at_verdict past stock Done (Comparing run) w staged moved after = absurd staged
  at_verdict past stock Lower (Closing run) w staged moved after = absurd staged
  at_verdict past stock Higher (Closing run) w staged moved after = absurd staged
  at_verdict past stock Done (Closing run) w staged moved after =
      subst (λ (now : State). ClosedAfter g now (stepped stock (Ok Done) ∷ past)) (sym moved) (after_done past after w stock allowed.in_64_bits)

  -- so does a step, accepted or refused
  at_step : (run : Run T ComparingStage) (past : GroupTrace T) (stock : ℕ) (result : Stepped T) → Steps run stock result →
      AtStage g (Comparing run) past →
      AtStage g (step_leaves result) (stepped stock (step_answer result) ∷ past)
  at_step run past stock (Ok advanced) s after =
      at_verdict past stock advanced.verdict advanced.run (step_weighs (state_of run.progress) stock advanced.verdict s.0) s.1 s.2 after
  at_step run past stock (Err refused) s after =
      subst (λ (r : Run T ComparingStage). After g (state_of r.progress) past) (sym s.1) after

  module _ (sample : T) (start : Run T ComparingStage) (new : state_of start.progress ≡ opened_state g.declared g.lo g.hi g.k) where
    -- so it is wherever a history of a run just opened stands
    pub stands_at : {trace : GroupTrace T} {now : Now T} → History g.place g.lowest g.highest sample start trace now →
        StandsAt g now trace
    stands_at opened =
        subst (λ (now : State). After g now []) (sym new) (after_opening g allowed)
    stands_at (report {past = past} {run = run} {left = left} number counts answer h r) =
        after_report past run.progress (stands_at h) number counts answer left.progress r
    stands_at (step {past = past} {run = run} stock result h s) = at_step run past stock result s (stands_at h)
    stands_at (finish {run = run} ending h f) = (Closing run, stands_at h)
    stands_at (break_off {past = past} {stage = stage} count h b) = (stage, at_break_off g stage past count (stands_at h))
