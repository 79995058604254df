-- A report is answered as the law says: out of its turn 13, and in its turn refused exactly if no list explains it.
use Rattle.std.proofs.Common.{◌≡◌, ℕ, Bool, true, false, List, [], ◌∷◌, map, Some, None, Option, Result, ◌==◌, sym, refl, ap, ◌∙◌, subst, arith}
use Rattle.std.specs.List.{AllByRecursion as Each}
use Rattle.std.proofs.lemmas.Bool.{both_ways, cond_both}
use Rattle.std.proofs.lemmas.Option.{none-some}
use Rattle.elements.specs.Orders.{OneElementEach}
use Rattle.faults.specs.declared.fault.RunFault.{RunFault}
use Rattle.faults.specs.declared.seat.Seat.TheVariants.{Numbered}
use Rattle.faults.specs.RefusalOrder.{answered}
use Rattle.runs.proofs.LawfulAnswers.{accepted_by_law, impossible_by_law, out_of_turn_by_law}
use Rattle.runs.specs.HistoryLaw.{with_report, Honest, InTurn, Answered}
use Rattle.runs.specs.Traces.{Effect, accepts, makes, neither, effect, verdicts, reports_with, accepted_with, AllAre, AcceptedAre, EachIs}
use Rattle.group.specs.SeatValues.{SeatValue, seat_number, seat_refusal}
use Rattle.group.specs.SeatCounts.{HasCounts}
use Rattle.group.specs.SeatRules.{Report, Explains, Possible, keeps_rules}
use Rattle.group.specs.declared.counts.Counts.{Counts}
use Rattle.group.specs.declared.count_bounds.CountBounds.{CountBounds}
use Rattle.referees.specs.declared.verdict.GroupVerdict.{GroupVerdict}
use Rattle.group.proofs.FiveRules.{test_is_five_rules}
use Rattle.group.specs.GroupCalls.{State, report_refusal}
use Rattle.group.specs.Histories.{GroupTrace}
use Rattle.group.specs.GroupProtocol.{Left, known_after}
use Rattle.group.proofs.ReportAnswers.{answer_by}
use Rattle.group.proofs.Numbers.{seat_there, seat_within}
use Rattle.group.proofs.OneSeat.{at_target, given_is, known_by_reports, seat_reported, some_list_explains, explained_possible}
use Rattle.group.proofs.Openings.{Group, Allowed}
use Rattle.group.proofs.RunStands.{protocol, length_of, reports_in, After, target_asked}

module _ {T : Type 0} (g : Group T) (number : ℕ) (xs : List T) where
  -- the places of the list have the counts of a report
  abbrev Shown : Report → Type 0
  Shown r = HasCounts r.target (map g.place xs) r.counts

  module _ (made : List GroupVerdict) (earlier : List Report) (shown : Each Shown earlier) where
    -- they do of honest reports that came together after these verdicts, and of earlier ones
    reports_shown : (reports : List (ℕ × Counts)) → AllAre (protocol g).same ((protocol g).honest number xs made) number reports →
        Each Shown (reports_with (protocol g).same ((protocol g).report_at number made) number reports earlier)
    reports_shown [] h = shown
    reports_shown (report ∷ more) h =
        let others = reports_with (protocol g).same ((protocol g).report_at number made) number more earlier in
        let counts = report.1 in
        cond_both (number == report.0) ((protocol g).report_at number made counts ∷ others) others (Each Shown)
        (λ same. ((sym (ap (λ (c : Counts). c.below) (h.0 same)), sym (ap (λ (c : Counts). c.above) (h.0 same))), reports_shown more h.1))
        (λ another. reports_shown more h.1)

    -- so they do whatever an event does
    effect_shown : (what : Effect ℕ Counts GroupVerdict) → AcceptedAre (protocol g).same ((protocol g).honest number xs made) number what →
        Each Shown (accepted_with (protocol g).same ((protocol g).report_at number made) number what earlier)
    effect_shown (accepts reports) h = reports_shown reports h
    effect_shown (makes verdict) h = shown
    effect_shown neither h = shown

  -- so an honest seat's list has the counts of each report of the seat
  own_list_shows : (trace : GroupTrace T) → EachIs (protocol g).same ((protocol g).honest number xs) number trace →
      Each Shown (reports_in g trace number)
  own_list_shows [] h = tt
  own_list_shows (event ∷ past) h =
      effect_shown (verdicts past) (reports_in g past number) (own_list_shows past h.1) (effect event) h.0

  -- so an honest seat's list explains its reports
  pub own_list_explains : (trace : GroupTrace T) → Honest (protocol g) number xs trace →
      Explains g.place g.lo g.hi (length_of g number) (reports_in g trace number) xs
  own_list_explains trace h = record { declared = h.fit.of_length; within = h.fit.within; shows = own_list_shows trace h.reports }

module _ {T : Type 0} {g : Group T} (each : OneElementEach g.place g.lowest g.highest) (allowed : Allowed g) (trace : GroupTrace T) {now : State}
    (after : After g now trace) (number : ℕ) (counts : Counts) where
  -- the seat's reports with one more
  abbrev with_this : List Report
  with_this = with_report (protocol g) number counts trace

  -- a list explains them
  abbrev ExplainsThis : List T → Type 0
  ExplainsThis xs = Explains g.place g.lo g.hi (length_of g number) with_this xs

  -- it keeps the rules, by the verdicts and the seat's reports
  abbrev KeepsThis : Type 0
  KeepsThis = (protocol g).KeepsRules number (verdicts trace) (reports_in g trace number) counts

  -- they are a report at the round's target, and the earlier accepted ones
  with_newest : with_this ≡ at_target now.a now.b counts ∷ reports_in g trace number
  with_newest =
      let ReportAt : ℕ → List Report = λ m. record { target = m; counts = counts } ∷ reports_in g trace number in
      ap ReportAt (target_asked after)

  -- an honest report is one that the seat's list explains with the earlier ones
  honest_explained : (xs : List T) → Honest (protocol g) number xs trace →
      counts ≡ (protocol g).honest number xs (verdicts trace) → ExplainsThis xs
  honest_explained xs h is =
      let x = own_list_explains g number xs trace h in
      record {
        declared = x.declared;
        within = x.within;
        shows = ((sym (ap (λ (c : Counts). c.below) is), sym (ap (λ (c : Counts). c.above) is)), x.shows);
      }

  module _ (value : SeatValue) (there : seat_number now.seats number ≡ Some value) where
    -- a report that passes the test is explained by some list, with the earlier ones
    passing_explained : value.given ≡ None → keeps_rules now.a now.b value.known counts ≡ true → (xs : List T) × ExplainsThis xs
    passing_explained none p =
        let reported = seat_reported (after.seats number value there) counts none (test_is_five_rules.passed now.a now.b value.known counts p) in
        let some = some_list_explains reported g.place g.lowest g.highest each allowed.from_lowest allowed.to_highest in
        (some.0, subst (λ (all : List Report). Explains g.place g.lo g.hi (length_of g number) all some.0) (sym with_newest) some.1)

    -- a report that some list explains with the earlier ones passes the test
    explained_passes : value.given ≡ None → (xs : List T) → ExplainsThis xs → keeps_rules now.a now.b value.known counts ≡ true
    explained_passes none xs x =
        test_is_five_rules.passing now.a now.b value.known counts
        (explained_possible (after.seats number value there) g.place g.lowest g.highest each counts none xs
        (subst (λ (all : List Report). Explains g.place g.lo g.hi (length_of g number) all xs) with_newest x))

    -- a report that passes the test keeps the rules by the verdicts and the seat's reports
    passing_keeps : value.given ≡ None → keeps_rules now.a now.b value.known counts ≡ true → KeepsThis
    passing_keeps none p =
        subst (λ (left : Left). Possible left.a left.b (known_after (length_of g number) (verdicts trace) (reports_in g trace number)) counts)
        (sym after.left_is)
        (subst (λ (known : CountBounds). Possible now.a now.b known counts) (known_by_reports (after.seats number value there) none)
        (test_is_five_rules.passed now.a now.b value.known counts p))

    -- and one that keeps them passes it
    keeping_passes : value.given ≡ None → KeepsThis → keeps_rules now.a now.b value.known counts ≡ true
    keeping_passes none keeps =
        test_is_five_rules.passing now.a now.b value.known counts
        (subst (λ (known : CountBounds). Possible now.a now.b known counts) (sym (known_by_reports (after.seats number value there) none))
        (subst (λ (left : Left). Possible left.a left.b (known_after (length_of g number) (verdicts trace) (reports_in g trace number)) counts)
        after.left_is keeps))

    -- a seat that has given nothing in this round is in its turn
    in_its_turn : value.given ≡ None → InTurn (protocol g) number trace
    in_its_turn none =
        let within = seat_within now.seats number value there in
        record {
          seated = (within.0, omega (arith, within.1, after.one_a_seat));
          not_yet = (given_is (after.seats number value there) None none).1;
        }

    -- the checks answer as the law says, by what was given in this round and whether the report passes
    lawful_by_checks : (given : Option Counts) (passing : Bool) → value.given ≡ given → keeps_rules now.a now.b value.known counts ≡ passing →
        Answered (protocol g) number counts (answer_by number given passing) trace
    lawful_by_checks (Some earlier) passing gave p =
        out_of_turn_by_law (protocol g) number counts trace
        (λ turn. both_ways _ turn.not_yet (given_is (after.seats number value there) (Some earlier) gave).1)
    lawful_by_checks None true gave p =
        let some = passing_explained gave p in accepted_by_law (protocol g) number counts trace (in_its_turn gave) (passing_keeps gave p) some.0 some.1
    lawful_by_checks None false gave p =
        impossible_by_law (protocol g) number counts trace (in_its_turn gave)
        (λ keeps. both_ways _ p (keeping_passes gave keeps)) (λ xs x. both_ways _ p (explained_passes gave xs x)) honest_explained

  -- they do so for any number, whether there is a seat of it or none
  lawful_by_seat : (seat : Option SeatValue) → seat_number now.seats number ≡ seat →
      Answered (protocol g) number counts
      (answered (seat_refusal now.a now.b seat counts) (Some (Numbered number)) tt) trace
  lawful_by_seat None is =
      out_of_turn_by_law (protocol g) number counts trace
      (λ turn.
      let some = seat_there now.seats number turn.seated.0 (omega (arith, turn.seated.1, after.one_a_seat)) in
      none-some some.0 (sym is ∙ some.1))
  lawful_by_seat (Some value) is = lawful_by_checks value is value.given (keeps_rules now.a now.b value.known counts) refl refl

  -- so a report is answered as the law says
  pub report_answered : (answer : Result (Unit {0}) RunFault) → answer ≡ answered (report_refusal number counts now) (Some (Numbered number)) tt →
      Answered (protocol g) number counts answer trace
  report_answered answer is =
      subst (λ (a : Result (Unit {0}) RunFault). Answered (protocol g) number counts a trace) (sym is)
      (lawful_by_seat (seat_number now.seats number) refl)
