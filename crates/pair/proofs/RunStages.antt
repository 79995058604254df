-- A run that compares has a window of more than one place, and one that closes has a window of one.
use Rattle.std.proofs.Common.{◌≡◌, Bool, true, Ok, Err, Result, ◌==◌, sym, refl, ap, ◌∙◌, inl, inr}
use Rattle.std.proofs.lemmas.Bool.{cases_Bool, eqb-true, eq-eqb}
use Rattle.elements.specs.declared.entry.Entry.{Entry}
use Rattle.faults.specs.declared.fault.RunFault.{RunFault}
use Rattle.pair.specs.declared.side.Side.{Side}
use Rattle.pair.specs.declared.side.Side.TheVariants.{A, B}
use Rattle.pair.specs.declared.window.Window.{Window}
use Rattle.pair.specs.PairCalls.{Reports, stage_of, progress_of, with_progress, left_by}
use Rattle.pair.specs.declared.progress.Progress.{Progress}
use Rattle.pair.specs.declared.run.StagedRun.{StagedRun}
use Rattle.pair.specs.declared.run.StagedRun.TheVariants.{Comparing, Closing}

module _ {T : Type 0} where
  -- the window of a run is that of its stage
  abbrev pub FitsStage : StagedRun T → Type 0
  FitsStage (Comparing run) = run.progress.window.size ≡ 1 → ⊥
  FitsStage (Closing run) = run.progress.window.size ≡ 1

  -- so it is where the stage is the one that the window calls for
  pub staged_fits : (stage : StagedRun T) → stage ≡ stage_of (progress_of stage) → FitsStage stage
  staged_fits (Comparing run) e = λ one.
      let t : (run.progress.window.size == 1) ≡ true = eq-eqb run.progress.window.size 1 one in
      let same = rw t at e in
      cc
  staged_fits (Closing run) e = elim (cases_Bool (run.progress.window.size == 1)) [
    | inl t ↦ eqb-true run.progress.window.size 1 t
    | inr f ↦ (let same = rw f at e in absurd cc)
  ]

  -- a report leaves the window as it is
  window_left : (answer : Result (Unit {0}) RunFault) (side : Side) (e : Entry T) (old : Progress T) →
      (left_by answer side e old).window ≡ old.window
  window_left (Ok u) A e old = refl
  window_left (Ok u) B e old = refl
  window_left (Err fault) side e old = refl

  -- a run with the same window still fits its stage
  same_window_fits : (stage : StagedRun T) (left : Progress T) → left.window ≡ (progress_of stage).window → FitsStage stage →
      FitsStage (with_progress left stage)
  same_window_fits (Comparing run) left same fits = λ one. fits (sym (ap (λ (w : Window). w.size) same) ∙ one)
  same_window_fits (Closing run) left same fits = ap (λ (w : Window). w.size) same ∙ fits

  -- and so does one after a report
  pub reported_fits : (before : T → T → Bool) (stage : StagedRun T) (side : Side) (e : Entry T) (answer : Result (Unit {0}) RunFault) (left : Progress T) →
      Reports before side e (progress_of stage) answer left → FitsStage stage → FitsStage (with_progress left stage)
  reported_fits before stage side e answer left r =
      same_window_fits stage left (ap (λ (p : Progress T). p.window) r.1 ∙ window_left answer side e (progress_of stage))
