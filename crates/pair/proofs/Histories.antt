-- Where a history stands, a run stands to its trace, in the stage that fits.
use Rattle.std.proofs.Common.{◌≡◌, ℕ, zero, suc, Bool, ◌∷◌, Some, Ok, Err, Result, sym, subst}
use Rattle.elements.specs.Orders.{IsOrder}
use Rattle.elements.specs.declared.entry.Entry.{Entry}
use Rattle.faults.specs.declared.fault.RunFault.{RunFault}
use Rattle.referees.specs.declared.verdict.PairVerdict.{PairVerdict}
use Rattle.pair.specs.Rows.{halvings}
use Rattle.pair.specs.Bisection.{OfSides}
use Rattle.pair.specs.declared.side.Side.{Side}
use Rattle.runs.specs.Traces.{reported, stepped, finished}
use Rattle.runs.specs.declared.slip.Slip.{Slip}
use Rattle.pair.specs.PairCalls.{Stepped, Ending, Reports, Steps, Finishes, IsOpened, stage_of, progress_of, with_progress, step_answer, finish_answer, step_asks, Moves}
use Rattle.pair.specs.Histories.{PairTrace, Now, going, over, History, opened, report, step, finish, break_off, step_leaves, finish_leaves}
use Rattle.pair.specs.declared.progress.Progress.{Progress}
use Rattle.runs.specs.declared.stage.Closing.{Closing as ClosingStage}
use Rattle.runs.specs.declared.stage.Comparing.{Comparing as ComparingStage}
use Rattle.pair.specs.declared.run.OfPair.{OfPair}
use Rattle.pair.specs.declared.run.Run.{Run}
use Rattle.pair.specs.declared.run.StagedRun.{StagedRun}
use Rattle.pair.specs.declared.run.StagedRun.TheVariants.{Comparing, Closing}
use Rattle.pair.proofs.PlacesAsked.{size_is}
use Rattle.pair.proofs.Openings.{Allowed}
use Rattle.pair.proofs.AfterReport.{after_report}
use Rattle.pair.proofs.RunStages.{FitsStage, staged_fits, reported_fits}
use Rattle.pair.proofs.RunStands.{After, after_opening}
use Rattle.pair.proofs.AfterStep.{after_verdict}

-- after a trace that does not end, a run stands to it, in the stage that fits; after one that ends, its last run does
abbrev pub StandsAt : {T : Type 0} → (T → T → Bool) → OfSides → ℕ → Now T → PairTrace T → Type 0
StandsAt before declared k (going stage) trace = (j : ℕ) × After before declared k j (progress_of stage) trace × FitsStage stage
StandsAt {T} before declared k over trace = (j : ℕ) × (progress : Progress T) × After before declared k j progress trace

module _ {T : Type 0} {before : T → T → Bool} (o : IsOrder before) (sample : T) {declared : OfSides} {k : ℕ} (allowed : Allowed declared k) where
  -- a report keeps it so
  at_report : (stage : StagedRun T) (past : PairTrace T) (side : Side) (e : Entry T) (answer : Result (Unit {0}) RunFault) (left : Progress T) →
      Reports before side e (progress_of stage) answer left → StandsAt before declared k (going stage) past →
      StandsAt before declared k (going (with_progress left stage)) (reported side e answer ∷ past)
  at_report (Comparing run) past side e answer left r at =
      (at.0, after_report past at.1 e side answer left r, reported_fits before (Comparing run) side e answer left r at.2)
  at_report (Closing run) past side e answer left r at =
      (at.0, after_report past at.1 e side answer left r, reported_fits before (Closing run) side e answer left r at.2)

  -- a verdict keeps it so
  at_verdict : (run : Run T ComparingStage) (past : PairTrace T) (stock : ℕ) (verdict : PairVerdict) (stage : StagedRun T) (j : ℕ) →
      step_asks before run.progress stock ≡ Ok verdict → Moves run.progress verdict (progress_of stage) → stage ≡ stage_of (progress_of stage) →
      After before declared k j run.progress past → FitsStage (Comparing run) → StandsAt before declared k (going stage) (stepped stock (Ok verdict) ∷ past)
  at_verdict run past stock verdict stage zero answers moves staged after wide = absurd (wide (size_is after.led))
  at_verdict run past stock verdict stage (suc j) answers moves staged after wide =
      (j, after_verdict o stock past allowed.few_halvings answers moves after, staged_fits stage staged)

  -- so does a step, accepted or refused
  at_step : (run : Run T ComparingStage) (past : PairTrace T) (stock : ℕ) (result : Stepped T) → Steps before run stock result →
      StandsAt before declared k (going (Comparing run)) past →
      StandsAt before declared k (going (step_leaves result)) (stepped stock (step_answer result) ∷ past)
  at_step run past stock (Ok advanced) s at = at_verdict run past stock advanced.verdict advanced.run at.0 s.0 s.1 s.2 at.1 at.2
  at_step run past stock (Err refused) s at =
      subst (λ (r : Run T ComparingStage). StandsAt before declared k (going (Comparing r)) (stepped stock (Err refused.fault) ∷ past)) (sym s.1) at

  -- and a finish
  at_finish : (run : Run T ClosingStage) (past : PairTrace T) (slip : Slip OfPair T) (stock : ℕ) (result : Ending T) →
      Finishes before sample run slip stock result → StandsAt before declared k (going (Closing run)) past →
      StandsAt before declared k (finish_leaves result) (finished (Some stock) (finish_answer result) ∷ past)
  at_finish run past slip stock (Ok outcome) f at = (at.0, run.progress, at.1)
  at_finish run past slip stock (Err refused) f at =
      subst (λ (r : Run T ClosingStage). StandsAt before declared k (going (Closing r)) (finished (Some stock) (Err refused.fault) ∷ past)) (sym f.1) at

  -- so it is wherever a history of a run just opened stands
  pub stands_at : (start : StagedRun T) → start ≡ stage_of (progress_of start) → IsOpened declared k (progress_of start) →
      {trace : PairTrace T} {now : Now T} → History before sample start trace now → StandsAt before declared k now trace
  stands_at start staged new opened = (halvings k, after_opening o (progress_of start) new, staged_fits start staged)
  stands_at start staged new (report {past = past} {stage = stage} side e answer left h r) =
      at_report stage past side e answer left r (stands_at start staged new h)
  stands_at start staged new (step {past = past} {run = run} stock result h s) = at_step run past stock result s (stands_at start staged new h)
  stands_at start staged new (finish {past = past} {run = run} slip stock result h f) =
      at_finish run past slip stock result f (stands_at start staged new h)
  stands_at start staged new (break_off {stage = stage} count h b) = let at = stands_at start staged new h in (at.0, progress_of stage, at.1)
