-- A verdict leaves a play that stands one verdict further.
use Rattle.std.proofs.Common.{◌≡◌, ℕ, zero, suc, ◌+◌, ◌*◌, ◌^◌, ◌<◌, Bool, List, ◌∷◌, set, Ok, Err, sym, refl, ap, ◌∙◌, subst, arith, pow_pos}
use Rattle.referees.specs.declared.verdict.PairVerdict.{PairVerdict}
use Rattle.pair.specs.Bisection.{half}
use Rattle.pair.specs.declared.side.Side.{Side}
use Rattle.pair.specs.declared.side.Side.TheVariants.{A, B}
use Rattle.pair.proofs.Logarithms.{half_of_power}
use Rattle.runs.specs.Traces.{reported, stepped, verdicts}
use Rattle.pair.specs.HalvedWindow.{Halves}
use Rattle.pair.specs.declared.window.Window.{Window}
use Rattle.pair.specs.PairCalls.{Moves, Steps, progress_of, progress_of_run}
use Rattle.pair.specs.Histories.{step}
use Rattle.pair.specs.declared.progress.Progress.{Progress}
use Rattle.runs.specs.declared.stage.Comparing.{Comparing}
use Rattle.pair.specs.declared.run.Run.{Run}
use Rattle.pair.specs.declared.run.StagedRun.{StagedRun}
use Rattle.pair.specs.declared.run.StagedRun.TheVariants.{Comparing as StillComparing}
use Rattle.pair.specs.declared.run.Advanced.{Advanced}
use Rattle.pair.proofs.RunStages.{staged_fits}
use Rattle.seats.specs.HonestRounds.{Compares}
use Rattle.seats.proofs.HonestReports.{ReportedBoth, accepted_reports}
use Rattle.seats.proofs.HonestRunStands.{Noted, Stands, noted_more}

-- a verdict halves a window of more than one place, which can then be halved once less
halved_once : (old new : Window) (verdict : PairVerdict) (rounds : ℕ) → old.size ≡ 2 ^ rounds → (old.size ≡ 1 → ⊥) → Halves old verdict new →
    (fewer : ℕ) × (rounds ≡ suc fewer) × (new.size ≡ 2 ^ fewer)
halved_once old new verdict zero size wide h = absurd (wide size)
halved_once old new verdict (suc fewer) size wide h = (fewer, refl, h.size_is ∙ ap half size ∙ half_of_power fewer)

module _ {T : Type 0} {before : T → T → Bool} {sample : T} {lists : Side → List T} {k : ℕ} {start : StagedRun T}
    {run : Run T Comparing} {stock left made : ℕ} {old log : List PairVerdict}
    (stands : Stands before sample lists k start (StillComparing run) stock left made old log) (advanced : Advanced T) where
  -- where both sides have reported, a verdict halves the window that the round began with
  halved_in_round : {progress : Progress T} →
      ReportedBoth before lists sample k start stands.past (StillComparing run) progress → Moves progress advanced.verdict (progress_of advanced.run) →
      (fewer : ℕ) × (stands.rounds ≡ suc fewer) × ((progress_of advanced.run).window.size ≡ 2 ^ fewer)
  halved_in_round {progress = progress} both moves =
      let same : progress.window ≡ (progress_of_run run).window = ap (λ (p : Progress T). p.window) both.left_is in
      let size = ap (λ (w : Window). w.size) same in
      halved_once progress.window (progress_of advanced.run).window advanced.verdict stands.rounds (size ∙ stands.size_is)
      (λ one. staged_fits (StillComparing run) stands.staged (sym size ∙ one)) moves.window

  -- then the play stands one verdict further
  stands_further : {progress : Progress T} (rest : ℕ) → left ≡ rest + 1 → {noted : List PairVerdict} → noted ≡ set log made advanced.verdict →
      ReportedBoth before lists sample k start stands.past (StillComparing run) progress →
      Steps before (record { progress = progress; stage = record {} }) left (Ok advanced) →
      Stands before sample lists k start advanced.run stock rest (made + 1) old noted
  stands_further rest one is both steps =
      let halved = halved_in_round both steps.1 in
      record {
        opened = stands.opened;
        past = stepped left (Ok advanced.verdict) ∷ reported B both.b (Ok tt) ∷ reported A both.a (Ok tt) ∷ stands.past;
        honestly = record { history = step left (Ok advanced) both.honestly.history steps; reports = λ side. (tt, both.honestly.reports side) };
        not_yet = λ side. refl;
        staged = steps.2;
        rounds = halved.0;
        size_is = halved.2;
        all_rounds = omega (arith, halved.1, stands.all_rounds);
        made_is = omega (arith, stands.made_is);
        paid = omega (arith, stands.paid);
        noted =
            subst (λ (l : List PairVerdict). Noted (advanced.verdict ∷ verdicts stands.past) old l) (sym is)
            (noted_more made (verdicts stands.past) old log advanced.verdict stands.made_is stands.noted);
        unrefused = λ some. both.unrefused;
      }

  -- so it does after a round that comes to a verdict
  pub stands_after_verdict : (rest : ℕ) → left ≡ rest + 1 → {noted : List PairVerdict} → noted ≡ set log made advanced.verdict →
      Compares before lists run left (Ok advanced) → Stands before sample lists k start advanced.run stock rest (made + 1) old noted
  stands_after_verdict rest one is (progress, Err fault, reports, e) = absurd cc
  stands_after_verdict rest one is (progress, Ok u, reports, steps) =
      stands_further rest one is (accepted_reports stands.opened stands.not_yet progress stands.honestly u reports) steps

  -- which leaves a smaller window
  pub window_falls : Compares before lists run left (Ok advanced) → (progress_of advanced.run).window.size < (progress_of_run run).window.size
  window_falls (progress, Err fault, reports, e) = absurd cc
  window_falls (progress, Ok u, reports, steps) =
      let halved = halved_in_round (accepted_reports stands.opened stands.not_yet progress stands.honestly u reports) steps.1 in
      let double : 2 ^ suc halved.0 ≡ 2 * 2 ^ halved.0 = omega arith in
      let whole : (progress_of_run run).window.size ≡ 2 ^ suc halved.0 = stands.size_is ∙ ap (λ (j : ℕ). 2 ^ j) halved.1 in
      omega (arith, halved.2, double, whole, pow_pos halved.0)
