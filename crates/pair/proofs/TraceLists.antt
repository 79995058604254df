-- Some lists explain the reports of a history, and whatever lists do, the verdicts are the first of the bisection over them.
use Rattle.std.proofs.Common.{◌≡◌, ℕ, ◌≤◌, Bool, List, ◌++◌, length, reverse, Some, None, Option, refl, ◌∙◌, subst, arith, length-append}
use mathlib.Core.List.{reverse_aux-eq}
use Rattle.std.specs.List.{AllByRecursion as Each}
use Rattle.elements.specs.Orders.{IsOrder}
use Rattle.elements.specs.declared.entry.Entry.{Entry}
use Rattle.elements.specs.Ranks.{Ranked}
use Rattle.elements.proofs.RankFacts.{some_ranked, ranked_unique}
use Rattle.referees.specs.declared.verdict.PairVerdict.{PairVerdict}
use Rattle.pair.specs.PairLaws.{AllDifferent}
use Rattle.pair.specs.Rebuilds.{rebuilt}
use Rattle.pair.specs.PairReports.{Report}
use Rattle.pair.specs.Rows.{row, entry_at}
use Rattle.pair.specs.Bisection.{OfSides, joint_pair, pair_verdicts}
use Rattle.pair.specs.declared.side.Side.{Side}
use Rattle.pair.specs.declared.side.Side.TheVariants.{A, B}
use Rattle.pair.proofs.ExplainedReports.{some_list_explains}
use Rattle.pair.proofs.FinishedExchanges.{later, exchange_reached}
use Rattle.pair.proofs.RebuiltVerdicts.{seats_rebuild}
use Rattle.runs.specs.HistoryLaw.{ExplainAll, Rebuilt}
use Rattle.runs.specs.Traces.{verdicts}
use Rattle.pair.specs.HalvedWindow.{offset_of}
use Rattle.pair.specs.SeatStates.{state_of_side}
use Rattle.pair.specs.Histories.{PairTrace}
use Rattle.pair.specs.declared.progress.Progress.{Progress}
use Rattle.pair.specs.PairProtocol.{pair_protocol}
use Rattle.pair.proofs.Openings.{Allowed}
use Rattle.pair.proofs.RunStands.{After, reports_in, given_is, reports_consistent}

module _ {T : Type 0} {before : T → T → Bool} (o : IsOrder before) {declared : OfSides} {k : ℕ} (trace : PairTrace T) where
  -- of lists that explain the reports there is one element of the rank asked for
  pub one_of_rank : Allowed declared k → (lists : Side → List T) → ExplainAll (pair_protocol before declared k) lists trace →
      (x : T) × Ranked before k (joint_pair lists) x × ((y : T) → Ranked before k (joint_pair lists) y → y ≡ x)
  one_of_rank allowed lists e =
      let all = length-append (lists A) (lists B) in
      let most : k ≤ length (joint_pair lists) = omega (arith, all, allowed.up_to_all, (e.each A tt).declared, (e.each B tt).declared) in
      let w = some_ranked o k (joint_pair lists) allowed.from_1 most in
      (w.0, w.1, λ y r. ranked_unique o k (joint_pair lists) y w.0 r w.1)

  -- from such lists, of different elements, each side rebuilds the verdicts of the bisection over them
  pub rebuilds_bisection : (lists : Side → List T) → ExplainAll (pair_protocol before declared k) lists trace → AllDifferent (joint_pair lists) →
      (x : T) → Ranked before k (joint_pair lists) x → (side : Side) → rebuilt before side k (lists side) x ≡ pair_verdicts before k lists
  rebuilds_bisection lists e apart x r side = seats_rebuild o k lists (λ s. (e.each s tt).in_order) apart x r side

  module _ {j : ℕ} {progress : Progress T} (after : After before declared k j progress trace) where
    -- some lists explain the reports of a history
    pub some_lists_explain : T → (lists : Side → List T) × ExplainAll (pair_protocol before declared k) lists trace
    some_lists_explain sample =
        let some = λ (side : Side).
        some_list_explains o side k (declared side) sample (reports_in before declared k trace side) (reports_consistent o (after.seats side)) in
        ((λ side. (some side).0), record { one_a_seat = tt; each = λ side seated. (some side).1 })

    -- what holds of all reports of a side holds of those of earlier rounds
    all_older : (P : Report T → Type 0) (side : Side) → Each P (reports_in before declared k trace side) → Each P (after.older side)
    all_older P side all = of_given (state_of_side side progress).given refl
      where
        -- whatever it has given in this round
        of_given : (given : Option (Entry T)) → (state_of_side side progress).given ≡ given → Each P (after.older side)
        of_given None g = subst (Each P) (given_is (after.seats side) g).0 all
        of_given (Some e) g = let with_last = subst (Each P) (given_is (after.seats side) g).0 all in with_last.1

    -- the bisection over lists that explain the reports makes the verdicts of a history, and a rest
    pub first_made : (lists : Side → List T) → ExplainAll (pair_protocol before declared k) lists trace →
        (rest : List PairVerdict) × (pair_verdicts before k lists ≡ reverse (verdicts trace) ++ rest)
    first_made lists e =
        let shown = λ (side : Side). all_older (λ r. entry_at (row side k (lists side)) r.place ≡ r.entry) side (e.each side tt).shows in
        let rest = later before k lists (λ side. offset_of side progress.window) j in
        (rest, (exchange_reached before k lists after.exchange shown).verdicts_are ∙ reverse_aux-eq (verdicts trace) rest)

    -- so each side rebuilds the verdicts of a history, and a rest
    pub rebuilds_first : (lists : Side → List T) → ExplainAll (pair_protocol before declared k) lists trace → AllDifferent (joint_pair lists) →
        (x : T) → Ranked before k (joint_pair lists) x →
        (rest : List PairVerdict) × Rebuilt (pair_protocol before declared k) lists x (reverse (verdicts trace) ++ rest)
    rebuilds_first lists e apart x r =
        let made = first_made lists e in (made.0, λ side seated. rebuilds_bisection lists e apart x r side ∙ made.1)
