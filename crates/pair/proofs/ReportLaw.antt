-- A report is answered as the law says: out of its turn 13, and in its turn refused exactly if no list explains it, which is
-- exactly if it breaks the rules.
use Rattle.std.proofs.Common.{◌≡◌, ℕ, ◌≤◌, Bool, true, false, List, [], ◌∷◌, Some, None, Option, Result, sym, refl, ◌∙◌, subst, arith}
use Rattle.std.specs.List.{AllByRecursion as Each}
use Rattle.std.proofs.lemmas.Bool.{both_ways, cond_both}
use Rattle.elements.specs.Orders.{IsOrder}
use Rattle.elements.specs.declared.entry.Entry.{Entry}
use Rattle.faults.specs.declared.fault.RunFault.{RunFault}
use Rattle.referees.specs.declared.verdict.PairVerdict.{PairVerdict}
use Rattle.pair.specs.PairReports.{Report, Explains, Consistent}
use Rattle.pair.specs.Rows.{row, entry_at}
use Rattle.pair.specs.Bisection.{OfSides}
use Rattle.pair.specs.declared.side.Side.{Side}
use Rattle.pair.proofs.ExplainedReports.{some_list_explains, explained_consistent}
use Rattle.pair.proofs.Nearest.{rules_keep_consistent, consistent_keeps_rules}
use Rattle.runs.proofs.LawfulAnswers.{KeepsRulesNow, accepted_by_law, impossible_by_law, out_of_turn_by_law}
use Rattle.runs.specs.HistoryLaw.{with_report, Honest, Answered, InTurn}
use Rattle.runs.specs.Traces.{Effect, accepts, makes, neither, effect, verdicts, has_reported, accepted_with, reports_with, AcceptedAre, AllAre, EachIs}
use Rattle.pair.specs.HalvedWindow.{offset_of}
use Rattle.pair.specs.PairCalls.{Reports}
use Rattle.pair.specs.SeatStates.{state_of_side}
use Rattle.pair.specs.Histories.{PairTrace}
use Rattle.pair.specs.declared.progress.Progress.{Progress}
use Rattle.pair.specs.PairProtocol.{same_side, place_after, honest, pair_protocol}
use Rattle.pair.proofs.ReportAnswers.{answer_by}
use Rattle.pair.proofs.PlacesAsked.{asked_by_window}
use Rattle.pair.proofs.RunStands.{at_asked, After, reports_in, same_newest, given_is, test, test_is, passing_is_consistent, consistent_passes, reports_consistent}

module _ {T : Type 0} (before : T → T → Bool) (declared : OfSides) (k : ℕ) (side : Side) (xs : List T) where
  -- the row shows reports
  abbrev Shown : List (Report T) → Type 0
  Shown reports = Each (λ r. entry_at (row side k xs) r.place ≡ r.entry) reports

  module _ (place : ℕ) (earlier : List (Report T)) (shown : Shown earlier) where
    -- a report at this place
    abbrev at : Entry T → Report T
    at e = record { place = place; entry = e }

    -- with what the side reported there, if each such report is the row's entry
    shown_together : (reports : List (Side × Entry T)) → AllAre same_side (entry_at (row side k xs) place) side reports →
        Shown (reports_with same_side at side reports earlier)
    shown_together [] all = shown
    shown_together (report ∷ more) all =
        let rest = shown_together more all.1 in
        let others = reports_with same_side at side more earlier in
        cond_both (same_side side report.0) (at report.1 ∷ others) others Shown (λ same. (sym (all.0 same), rest)) (λ another. rest)

    -- and so with whatever an event adds
    shown_with : (effect : Effect Side (Entry T) PairVerdict) → AcceptedAre same_side (entry_at (row side k xs) place) side effect →
        Shown (accepted_with same_side at side effect earlier)
    shown_with (accepts reports) all = shown_together reports all
    shown_with (makes verdict) all = shown
    shown_with neither all = shown

  -- the row of an honest side's list shows each report of the side
  own_list_shows : (trace : PairTrace T) → EachIs same_side (honest before declared k side xs) side trace →
      Shown (reports_in before declared k trace side)
  own_list_shows [] h = tt
  own_list_shows (event ∷ past) h =
      shown_with (place_after k side (verdicts past)) (reports_in before declared k past side) (own_list_shows past h.1) (effect event) h.0

  -- so an honest side's list explains its reports
  pub own_list_explains : (trace : PairTrace T) → Honest (pair_protocol before declared k) side xs trace →
      Explains before side k (declared side) (reports_in before declared k trace side) xs
  own_list_explains trace h = record { declared = h.fit.0; in_order = h.fit.1; shows = own_list_shows trace h.reports }

module _ {T : Type 0} {before : T → T → Bool} (o : IsOrder before) (sample : T) {declared : OfSides} {k : ℕ} (trace : PairTrace T) {j : ℕ}
    {progress : Progress T} (after : After before declared k j progress trace) (side : Side) (e : Entry T) where
  -- a side's reports with one more
  abbrev with_this : List (Report T)
  with_this = with_report (pair_protocol before declared k) side e trace

  -- where nothing was given in this round, that is a report at the place asked after those of earlier rounds
  with_newest : (state_of_side side progress).given ≡ None → with_this ≡ at_asked (offset_of side progress.window) j e ∷ after.older side
  with_newest none = same_newest e (asked_by_window after.led side) (given_is (after.seats side) none).0

  -- a report that passes is consistent with the earlier ones
  passing_consistent : (state_of_side side progress).given ≡ None → test before side progress e ≡ true → Consistent before side k (declared side) with_this
  passing_consistent none p =
      subst (Consistent before side k (declared side)) (sym (with_newest none))
      (passing_is_consistent o (after.seats side) e (sym (test_is after side e) ∙ p))

  -- and one that is consistent with them passes
  consistent_passing : (state_of_side side progress).given ≡ None → Consistent before side k (declared side) with_this → test before side progress e ≡ true
  consistent_passing none c =
      test_is after side e ∙ consistent_passes o (after.seats side) e (subst (Consistent before side k (declared side)) (with_newest none) c)

  -- the place that the law says is asked is counted from 1
  from_1 : 1 ≤ place_after k side (verdicts trace)
  from_1 = omega (arith, asked_by_window after.led side)

  -- a report that keeps the rules passes
  keeping_passes : (state_of_side side progress).given ≡ None → KeepsRulesNow (pair_protocol before declared k) side e trace →
      test before side progress e ≡ true
  keeping_passes none keeps =
      consistent_passing none
      (rules_keep_consistent side k (declared side) (reports_in before declared k trace side) _ o (reports_consistent o (after.seats side)) from_1 keeps)

  -- and so does one that some list explains with the earlier ones
  explained_passes : (state_of_side side progress).given ≡ None → (xs : List T) → Explains before side k (declared side) with_this xs →
      test before side progress e ≡ true
  explained_passes none xs x =
      consistent_passing none
      (explained_consistent o side k (declared side) with_this (from_1, (reports_consistent o (after.seats side)).from_1) xs x)

  -- an honest report is one that the side's list explains with the earlier ones
  honest_explained : (xs : List T) → Honest (pair_protocol before declared k) side xs trace → e ≡ honest before declared k side xs (verdicts trace) →
      Explains before side k (declared side) with_this xs
  honest_explained xs h is =
      let x = own_list_explains before declared k side xs trace h in
      record { declared = x.declared; in_order = x.in_order; shows = (sym is, x.shows) }

  -- a side that has given nothing in this round is in its turn
  in_its_turn : (state_of_side side progress).given ≡ None → InTurn (pair_protocol before declared k) side trace
  in_its_turn g = record { seated = tt; not_yet = (given_is (after.seats side) g).1 }

  -- the checks answer as the law says, by what was given in this round and whether the report passes
  lawful_by_checks : (given : Option (Entry T)) (passing : Bool) → (state_of_side side progress).given ≡ given → test before side progress e ≡ passing →
      Answered (pair_protocol before declared k) side e (answer_by side given passing) trace
  lawful_by_checks (Some earlier) passing g p =
      out_of_turn_by_law (pair_protocol before declared k) side e trace
      (λ turn. both_ways (has_reported same_side side trace) turn.not_yet (given_is (after.seats side) g).1)
  lawful_by_checks None true g p =
      let c = passing_consistent g p in
      let some = some_list_explains o side k (declared side) sample with_this c in
      accepted_by_law (pair_protocol before declared k) side e trace (in_its_turn g)
      (consistent_keeps_rules side k (declared side) (reports_in before declared k trace side) _ c) some.0 some.1
  lawful_by_checks None false g p =
      impossible_by_law (pair_protocol before declared k) side e trace (in_its_turn g)
      (λ keeps. both_ways (test before side progress e) p (keeping_passes g keeps))
      (λ xs x. both_ways (test before side progress e) p (explained_passes g xs x)) honest_explained

  -- so a report is answered as the law says
  pub report_answered : (answer : Result (Unit {0}) RunFault) (left : Progress T) → Reports before side e progress answer left →
      Answered (pair_protocol before declared k) side e answer trace
  report_answered answer left r =
      subst (λ (a : Result (Unit {0}) RunFault). Answered (pair_protocol before declared k) side e a trace) (sym r.0)
      (lawful_by_checks (state_of_side side progress).given (test before side progress e) refl refl)
