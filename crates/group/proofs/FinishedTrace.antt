-- An accepted finish gives what the law says: the element of the rank asked for, and the number of verdicts.
use Rattle.std.proofs.Common.{◌≡◌, ℕ, ◌+◌, ◌-◌, ◌≤◌, List, length, reverse, Some, None, Option, sym, ◌∙◌, subst, arith}
use Rattle.std.proofs.lemmas.List.{length-reverse}
use Rattle.elements.specs.Orders.{IsOrder, PlacesAgree, AtPlace, OneElementEach}
use Rattle.elements.specs.Ranks.{joint, Ranked}
use Rattle.runs.specs.Finishes.{Outcome}
use Rattle.runs.specs.HistoryLaw.{ExplainAll, Rebuilt, FinishLaw}
use Rattle.runs.specs.Traces.{verdicts}
use Rattle.referees.specs.declared.verdict.GroupVerdict.{GroupVerdict}
use Rattle.group.specs.SeatCounts.{weighed}
use Rattle.group.specs.GroupLaws.{AtMostLogPlusOne}
use Rattle.group.specs.Ranges.{target}
use Rattle.group.specs.Searches.{Search}
use Rattle.group.specs.GroupCalls.{State, IsElementAt, or_else}
use Rattle.group.specs.Histories.{GroupTrace}
use Rattle.group.proofs.ClosedRuns.{ClosedAfter, is_weighing}
use Rattle.group.proofs.TraceLists.{one_of_rank, ranked_within, explained_finds, some_lists_explain}
use Rattle.group.proofs.Openings.{Group, Allowed}
use Rattle.group.proofs.RunStands.{protocol, Explained, explains_accepted, reports_in}

-- what is ending out for the place of an element, a place of the type, is that element
ending_is : {T : Type 0} (place : T → ℕ) (lowest highest : ℕ) → OneElementEach place lowest highest → (sample : T) (n : ℕ) (x result : T) →
    lowest ≤ n → n ≤ highest → place x ≡ n → IsElementAt place lowest highest sample n result → result ≡ x
ending_is {T} place lowest highest each sample n x result from_lowest to_highest is ending = of_answer ending.0 ending.1 ending.2
  where
    -- whatever is at that place
    of_answer : (answer : Option T) → AtPlace place lowest highest n answer → result ≡ or_else sample answer → result ≡ x
    of_answer None none given = absurd (none from_lowest to_highest)
    of_answer (Some y) at given = let one = each n from_lowest to_highest in given ∙ one.2 y at.0 ∙ sym (one.2 x is)

module _ {T : Type 0} {g : Group T} (o : IsOrder g.before) (agrees : PlacesAgree g.before g.place) (trace : GroupTrace T) where
  -- from lists that explain the reports, each seat rebuilds the verdicts of the weighing of them
  pub rebuilds_weighing : (lists : List (List T)) → Explained g (reports_in g trace) lists →
      (x : T) → Ranked g.before g.k (joint lists) x → (all : List GroupVerdict) → Search (weighed g.place g.k lists) g.lo g.hi all (g.place x) →
      Rebuilt (protocol g) lists x all
  rebuilds_weighing lists e x r all run number seated = (g.place x, (explained_finds e o x r agrees).rebuilt all (g.place x) run)

  module _ (each : OneElementEach g.place g.lowest g.highest) (allowed : Allowed g) {now : State} (closed : ClosedAfter g now trace) where
    -- what a closed run hands out is the element of the rank asked for of all lists that explain the reports
    result_has_rank : (sample result : T) → IsElementAt g.place g.lowest g.highest sample (target now.a now.b) result →
        (lists : List (List T)) → ExplainAll (protocol g) lists trace → Ranked g.before g.k (joint lists) result
    result_has_rank sample result ending lists all =
        let e = explains_accepted trace lists all in
        let w = one_of_rank e o allowed in
        let is = (is_weighing o agrees e w.0 w.1 closed).1 in
        let within = ranked_within e o w.0 w.1 in
        let same = ending_is g.place g.lowest g.highest each sample (target now.a now.b) w.0 result
        (omega (arith, within.0, is, allowed.from_lowest)) (omega (arith, within.1, is, allowed.to_highest)) is ending in
        subst (Ranked g.before g.k (joint lists)) (sym same) w.1

    -- the number of verdicts is at most one more than the logarithm of the number of places
    few_verdicts : AtMostLogPlusOne (g.hi - g.lo + 1) (length (verdicts trace))
    few_verdicts =
        let some = some_lists_explain each allowed closed.stood in
        let w = one_of_rank some.1 o allowed in
        subst (AtMostLogPlusOne (g.hi - g.lo + 1)) (length-reverse (verdicts trace))
        ((explained_finds some.1 o w.0 w.1 agrees).few (reverse (verdicts trace)) (g.place w.0) (is_weighing o agrees some.1 w.0 w.1 closed).0)

    -- so the finish is lawful
    pub finish_lawful : (sample : T) (outcome : Outcome T) → IsElementAt g.place g.lowest g.highest sample (target now.a now.b) outcome.result →
        outcome.count ≡ now.made → FinishLaw (protocol g) outcome trace
    finish_lawful sample outcome ending made =
        let all = made ∙ closed.made_is in
        record {
          result_is = result_has_rank sample outcome.result ending;
          count_is = all;
          count_fits = subst (AtMostLogPlusOne (g.hi - g.lo + 1)) (sym all) few_verdicts;
          all_made = λ lists all.
              let e = explains_accepted trace lists all in
              let w = one_of_rank e o allowed in
              (g.place w.0, (is_weighing o agrees e w.0 w.1 closed).0);
          all_rebuilt = λ lists all rebuildable x r.
              let e = explains_accepted trace lists all in
              rebuilds_weighing lists e x r (reverse (verdicts trace)) (is_weighing o agrees e x r closed).0;
        }
