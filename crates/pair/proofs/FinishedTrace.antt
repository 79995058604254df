-- An accepted finish gives what the law says: the element of the rank asked for, and the number of verdicts.
use Rattle.std.proofs.Common.{◌≡◌, ℕ, ◌+◌, Bool, List, reverse, sym, ◌∙◌, subst, arith}
use Rattle.elements.specs.Entries.{lesser_entry}
use Rattle.elements.specs.Orders.{IsOrder}
use Rattle.elements.specs.declared.entry.Entry.{Entry}
use Rattle.elements.specs.Ranks.{Ranked}
use Rattle.pair.specs.Exchanges.{with_round, Accepted, finished}
use Rattle.pair.specs.PairLaws.{IsCeilLog2, ExplainBoth, FinishedIsBisection}
use Rattle.pair.specs.PairReports.{Report, Explains}
use Rattle.pair.specs.Rows.{halvings}
use Rattle.pair.specs.Bisection.{OfSides, joint_pair, pair_verdicts}
use Rattle.pair.specs.declared.side.Side.{Side}
use Rattle.pair.specs.declared.side.Side.TheVariants.{A, B}
use Rattle.pair.proofs.FinishedExchanges.{finished_is_bisection}
use Rattle.pair.proofs.Logarithms.{halvings_are_log}
use Rattle.runs.specs.Finishes.{Outcome}
use Rattle.runs.specs.HistoryLaw.{ExplainAll, FinishLaw}
use Rattle.runs.specs.Traces.{verdicts}
use Rattle.pair.specs.HalvedWindow.{offset_of}
use Rattle.pair.specs.PairCalls.{element_of, BreaksOff}
use Rattle.pair.specs.Histories.{PairTrace}
use Rattle.pair.specs.declared.progress.Progress.{Progress}
use Rattle.pair.specs.PairProtocol.{pair_protocol}
use Rattle.pair.proofs.ReportAnswers.{GaveBoth}
use Rattle.pair.proofs.TraceLists.{rebuilds_bisection}
use Rattle.pair.proofs.Openings.{Allowed}
use Rattle.pair.proofs.RunStands.{After, given_is, passing_keeps_rules}

module _ {T : Type 0} {before : T → T → Bool} (o : IsOrder before) (sample : T) {declared : OfSides} {k : ℕ} (allowed : Allowed declared k)
    (trace : PairTrace T) {progress : Progress T} (after : After before declared k 0 progress trace) {lesser : Entry T}
    (both : GaveBoth (λ given. lesser_entry before given.0 given.1) progress lesser) where
  -- the reports of a run at size 1, the last ones too
  abbrev reports_at_last : Side → List (Report T)
  reports_at_last = with_round after.older (λ side. offset_of side progress.window + 1) both.entries

  -- they finish an exchange, which is the bisection over every two lists that explain it
  finished_so : FinishedIsBisection before k declared reports_at_last (verdicts trace) (lesser_entry before (both.entries A) (both.entries B))
  finished_so =
      let accepted : Accepted before k declared after.older (λ side. offset_of side progress.window + 1) both.entries
      = λ side. passing_keeps_rules o (after.seats side) (both.entries side) (given_is (after.seats side) (both.given side)).2 in
      finished_is_bisection o sample k declared allowed.from_1 allowed.up_to_all reports_at_last (verdicts trace)
      (lesser_entry before (both.entries A) (both.entries B)) (finished both.entries after.exchange accepted)

  -- lists that explain the reports of the history explain that exchange
  explain_finished : (lists : Side → List T) → ExplainAll (pair_protocol before declared k) lists trace →
      ExplainBoth before k declared reports_at_last lists
  explain_finished lists e side =
      subst (λ (reports : List (Report T)). Explains before side k (declared side) reports (lists side))
      (given_is (after.seats side) (both.given side)).0 (e.each side tt)

  -- the lesser of the last entries is the element of the rank asked for
  result_has_rank : (lists : Side → List T) → ExplainAll (pair_protocol before declared k) lists trace →
      Ranked before k (joint_pair lists) (element_of sample lesser)
  result_has_rank lists e =
      let w = finished_so.result_is lists (explain_finished lists e) in
      subst (λ (entry : Entry T). Ranked before k (joint_pair lists) (element_of sample entry)) (sym w.1 ∙ both.true_answer) w.2

  -- the verdicts of the history are all that the bisection over such lists makes
  all_verdicts : (lists : Side → List T) → ExplainAll (pair_protocol before declared k) lists trace →
      pair_verdicts before k lists ≡ reverse (verdicts trace)
  all_verdicts lists e = sym (finished_so.verdicts_are lists (explain_finished lists e))

  -- so the finish is lawful
  pub finish_lawful : (outcome : Outcome T) → outcome.result ≡ element_of sample lesser → BreaksOff progress outcome.count →
      FinishLaw (pair_protocol before declared k) outcome trace
  finish_lawful outcome r b =
      let all : outcome.count ≡ halvings k = omega (arith, b, after.made_is, after.led.rounds) in
      record {
        result_is = λ lists e. subst (Ranked before k (joint_pair lists)) (sym r) (result_has_rank lists e);
        count_is = b ∙ after.made_is;
        count_fits = subst (IsCeilLog2 k) (sym all) (halvings_are_log k);
        all_made = all_verdicts;
        all_rebuilt = λ lists e apart x r side seated. rebuilds_bisection o trace lists e apart x r side ∙ all_verdicts lists e;
      }
