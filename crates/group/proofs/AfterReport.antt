-- A report, accepted or refused, leaves a round that stands to the trace with it.
use Rattle.std.proofs.Common.{◌≡◌, ℕ, ◌-◌, Bool, true, false, cond, List, ◌∷◌, set, Some, None, Ok, Err, Option, Result, ◌==◌, sym, refl, ap, ◌∙◌, subst, inl, inr}
use Rattle.std.specs.List.{sum}
use Rattle.std.proofs.lemmas.Bool.{eq-eqb, ne_eqb}
use Rattle.std.proofs.lemmas.List.{length-set}
use Rattle.faults.specs.declared.fault.RunFault.{RunFault}
use Rattle.faults.specs.declared.seat.Seat.TheVariants.{Numbered}
use Rattle.faults.specs.RefusalOrder.{answered}
use Rattle.runs.specs.Traces.{reported, verdicts, has_reported}
use Rattle.group.specs.SeatValues.{SeatValue, with_counts, seat_number, seat_refusal}
use Rattle.group.specs.SeatRules.{Possible, Report, Explains, keeps_rules}
use Rattle.group.specs.declared.counts.Counts.{Counts}
use Rattle.group.proofs.FiveRules.{test_is_five_rules}
use Rattle.group.proofs.NeverEmpty.{RankInRange}
use Rattle.group.specs.GroupCalls.{State, state_of, reported_state, Reports}
use Rattle.group.specs.Histories.{GroupTrace}
use Rattle.group.specs.declared.progress.Progress.{Progress}
use Rattle.group.specs.GroupProtocol.{target_after}
use Rattle.group.proofs.ReportAnswers.{answer_by, accepted_passes}
use Rattle.group.proofs.Numbers.{seat_within, seat_read, seat_after_set, same_map}
use Rattle.group.proofs.OneSeat.{SeatStands, seat_reported}
use Rattle.group.proofs.Openings.{Group}
use Rattle.group.proofs.RunStands.{protocol, length_of, reports_in, After, target_asked}

-- a list that explains a seat's reports, with one more if that is the seat's, explains them without it
explains_fewer : {T : Type 0} (place : T → ℕ) (lo hi d : ℕ) (xs : List T) (report : Report) (older : List Report) (test : Bool) →
    Explains place lo hi d (cond test (report ∷ older) older) xs → Explains place lo hi d older xs
explains_fewer place lo hi d xs report older true x = record { declared = x.declared; within = x.within; shows = x.shows.1 }
explains_fewer place lo hi d xs report older false x = x

module _ {T : Type 0} {g : Group T} (trace : GroupTrace T) where
  module _ {old : State} (after : After g old trace) (number : ℕ) (counts : Counts) where
    -- the state of a seat stands to its reports, and to this report too if it is the seat's
    abbrev StandsWith : ℕ → SeatValue → (is_this : Bool) → Type 0
    StandsWith other seat is_this =
        let accepted = reports_in g trace other in
        let newest : Report = record { target = target_after g.lo g.hi (verdicts trace); counts = counts } in
        SeatStands g.lo g.hi (length_of g other) (verdicts trace) old.a old.b seat
        (cond is_this (newest ∷ accepted) accepted) (cond is_this true (has_reported (protocol g).same other trace))

    module _ (value : SeatValue) (is : seat_number old.seats number ≡ Some value) (none : value.given ≡ None)
        (p : Possible old.a old.b value.known counts) where
      -- so does the state of the seat that reports, with its report
      this_seat : StandsWith number (with_counts counts value) true
      this_seat =
          subst (λ (m : ℕ). SeatStands g.lo g.hi (length_of g number) (verdicts trace) old.a old.b (with_counts counts value)
          (record { target = m; counts = counts } ∷ reports_in g trace number) true) (sym (target_asked after))
          (seat_reported (after.seats number value is) counts none p)

      -- and so does the state that each seat then has
      each_seat : (other : ℕ) (seat : SeatValue) → seat_number (set old.seats (number - 1) (with_counts counts value)) other ≡ Some seat →
          StandsWith other seat (other == number)
      each_seat other seat there =
          elim (seat_after_set old.seats number other (with_counts counts value) seat (seat_within old.seats number value is).0 there) [
            | inl at ↦
                subst (StandsWith other seat) (sym (eq-eqb other number at.0))
                (subst (λ (s : SeatValue). StandsWith other s true) (sym at.1)
                (subst (λ (n : ℕ). StandsWith n (with_counts counts value) true) (sym at.0) this_seat))
            | inr off ↦ subst (StandsWith other seat) (sym (ne_eqb other number off.0)) (after.seats other seat off.1)
          ]

      -- a round that takes the report stands to the trace with it
      after_taken : After g (reported_state number counts value old) (reported number counts (Ok tt) ∷ trace)
      after_taken = record {
        rank_is = after.rank_is;
        total_is = after.total_is;
        from_lo = after.from_lo;
        to_hi = after.to_hi;
        left_is = after.left_is;
        made_is = after.made_is;
        none_done = after.none_done;
        in_range =
            subst (RankInRange g.k (sum g.declared) old.a old.b)
            (sym (same_map (λ (seat : SeatValue). seat.known) old.seats (number - 1) value (with_counts counts value)
            (seat_read old.seats number value is) refl)) after.in_range;
        halved = after.halved;
        one_a_seat = length-set old.seats (number - 1) (with_counts counts value) ∙ after.one_a_seat;
        seats = each_seat;
        by_judge = λ lists e.
            after.by_judge lists (record {
              one_a_seat = e.one_a_seat;
              each = λ other seated.
                  explains_fewer g.place g.lo g.hi (length_of g other) _ _ _ (other == number) (e.each other seated);
            });
      }

  -- a report leaves a round that stands to the trace with it
  pub after_report : (was : Progress) → After g (state_of was) trace → (number : ℕ) (counts : Counts)
      (answer : Result (Unit {0}) RunFault) (left : Progress) → Reports number counts was answer left →
      After g (state_of left) (reported number counts answer ∷ trace)
  after_report was after number counts (Ok u) left r =
      let value = r.1.0 in
      let is = r.1.1 in
      let old = state_of was in
      let answers : Ok tt ≡ answer_by number value.given (keeps_rules old.a old.b value.known counts)
      = r.0 ∙ ap (λ (seat : Option SeatValue). answered (seat_refusal old.a old.b seat counts) (Some (Numbered number)) tt) is in
      let w = accepted_passes number value.given (keeps_rules old.a old.b value.known counts) answers in
      subst (λ (now : State). After g now (reported number counts (Ok tt) ∷ trace)) (sym r.1.2)
      (after_taken after number counts value is w.0 (test_is_five_rules.passed old.a old.b value.known counts w.1))
  after_report was after number counts (Err fault) left r =
      subst (λ (progress : Progress). After g (state_of progress) trace) (sym r.1) after
