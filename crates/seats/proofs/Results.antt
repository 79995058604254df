-- A play that finishes comes to what is promised, by the law of its history.
use Rattle.std.proofs.Common.{◌≡◌, ℕ, ◌+◌, Bool, List, ◌∷◌, length, Some, Ok, Err, sym, ap, ◌∙◌, arith}
use Rattle.std.proofs.lemmas.List.{length-reverse}
use Rattle.referees.specs.declared.verdict.PairVerdict.{PairVerdict}
use Rattle.pair.specs.declared.side.Side.{Side}
use Rattle.pair.specs.declared.side.Side.TheVariants.{A, B}
use Rattle.runs.specs.HistoryLaw.{FinishLaw as LawfulFinish}
use Rattle.runs.specs.Traces.{reported, finished, verdicts}
use Rattle.runs.specs.Finishes.{Outcome}
use Rattle.runs.specs.declared.slip.Slip.{Slip}
use Rattle.pair.specs.PairCalls.{Finishes}
use Rattle.pair.specs.Histories.{PairTrace, over, finish}
use Rattle.pair.specs.declared.progress.Progress.{Progress}
use Rattle.runs.specs.declared.stage.Closing.{Closing}
use Rattle.pair.specs.declared.run.OfPair.{OfPair}
use Rattle.pair.specs.declared.run.Run.{Run}
use Rattle.pair.specs.declared.run.StagedRun.{StagedRun}
use Rattle.pair.specs.declared.run.StagedRun.TheVariants.{Closing as NowClosing}
use Rattle.pair.specs.PairProtocol.{pair_protocol}
use Rattle.seats.specs.HonestRuns.{declared_lengths, Finds, IsHonestRun}
use Rattle.seats.specs.HonestRounds.{Closes}
use Rattle.seats.proofs.RunOutcomes.{comes_unrefused}
use Rattle.seats.proofs.Honesty.{lists_explain}
use Rattle.seats.proofs.HonestReports.{ReportedBoth, accepted_reports}
use Rattle.seats.proofs.HonestRunStands.{Stands}

module _ {T : Type 0} {before : T → T → Bool} {sample : T} {lists : Side → List T} {k : ℕ} {start : StagedRun T}
    {run : Run T Closing} {stock left made : ℕ} {old log : List PairVerdict}
    (stands : Stands before sample lists k start (NowClosing run) stock left made old log) (slip : Slip OfPair T) (ending : Outcome T) where
  module _ {progress : Progress T}
      (both : ReportedBoth before lists sample k start stands.past (NowClosing run) progress) where
    -- the trace at the end, before the finish
    abbrev last : PairTrace T
    last = reported B both.b (Ok tt) ∷ reported A both.a (Ok tt) ∷ stands.past

    -- the law says what the finish gives
    finish_is_lawful : Finishes before sample (record { progress = progress; stage = record {} }) slip left (Ok ending) →
        LawfulFinish (pair_protocol before (declared_lengths lists) k) ending last
    finish_is_lawful f =
        let history = finish slip left (Ok ending) both.honestly.history f in
        (stands.opened.lawful (finished (Some left) (Ok ending) ∷ last) over history).0.events.0.2

    -- and that is what is promised, since both lists explain all reports
    finds_by_law : LawfulFinish (pair_protocol before (declared_lengths lists) k) ending last → Finds before lists k ending
    finds_by_law lawful =
        let explained = lists_explain stands.opened both.unrefused both.honestly in
        let ranked = lawful.result_is lists explained in
        let all_made = lawful.all_made lists explained in
        record {
          result = ranked;
          count = lawful.count_fits;
          all_made =
              lawful.count_is ∙ sym (length-reverse (verdicts stands.past)) ∙ sym (ap (λ (vs : List PairVerdict). length vs) all_made);
          verdicts = λ different side. lawful.all_rebuilt lists explained different ending.result ranked side tt ∙ sym all_made;
        }

  -- so a last round that finishes comes to what is promised
  pub finds_after_finish : (rest : ℕ) → left ≡ rest + 1 → Closes before sample lists run slip left (Ok ending) →
      IsHonestRun before lists k stock rest (Ok ending)
  finds_after_finish rest one (progress, Err fault, reports, e) = absurd cc
  finds_after_finish rest one (progress, Ok u, reports, f) =
      let both = accepted_reports stands.opened stands.not_yet progress stands.honestly u reports in
      let lawful = finish_is_lawful both f in
      comes_unrefused stands.opened.order lists k stock stands.opened.allowed both.unrefused rest (Ok ending)
      (omega (arith, stands.paid, stands.made_is, lawful.count_is), finds_by_law both lawful)
