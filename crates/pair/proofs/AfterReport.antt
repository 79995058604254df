-- A report, accepted or refused, leaves a run that stands to the trace with it.
use Rattle.std.proofs.Common.{◌≡◌, ℕ, ◌^◌, Bool, true, false, List, ◌∷◌, Some, None, Ok, Option, Result, sym, refl, ◌∙◌, subst}
use Rattle.elements.specs.declared.entry.Entry.{Entry}
use Rattle.faults.specs.declared.fault.RunFault.{RunFault}
use Rattle.pair.specs.PairReports.{Report}
use Rattle.pair.specs.Bisection.{OfSides, place_asked}
use Rattle.pair.specs.declared.side.Side.{Side}
use Rattle.pair.specs.declared.side.Side.TheVariants.{A, B}
use Rattle.runs.specs.Traces.{reported, verdicts, has_reported}
use Rattle.pair.specs.HalvedWindow.{offset_of}
use Rattle.pair.specs.PairCalls.{Reports, left_by, with_given}
use Rattle.pair.specs.SeatStates.{state_of_side, seat_reporting}
use Rattle.pair.specs.Histories.{PairTrace}
use Rattle.pair.specs.declared.seat_state.SeatState.{SeatState}
use Rattle.pair.specs.declared.progress.Progress.{Progress}
use Rattle.pair.specs.PairProtocol.{same_side, place_after}
use Rattle.pair.proofs.ReportAnswers.{answer_by}
use Rattle.pair.proofs.PlacesAsked.{asked_by_window}
use Rattle.pair.proofs.RunStands.{Passes, SeatStands, After, reports_in, same_newest, given_is, test, test_is}

module _ {T : Type 0} {before : T → T → Bool} {declared : OfSides} {k : ℕ} where
  -- the state of a side that had given nothing in this round, with a report that passes the test
  stands_with : {side : Side} {seat : SeatState T} {offset j : ℕ} {older reports : List (Report T)} {has : Bool} (place : ℕ) (e : Entry T) →
      SeatStands before declared k side seat offset j older reports has → seat.given ≡ None → place ≡ place_asked offset (2 ^ j) →
      Passes before declared k side seat offset j e →
      SeatStands before declared k side (seat_reporting e seat) offset j older (record { place = place; entry = e } ∷ reports) true
  stands_with place e stands none at p = record {
    declared_is = stands.declared_is;
    bounded = stands.bounded;
    given = (same_newest e at (given_is stands none).0, refl, p);
  }

  module _ (trace : PairTrace T) {j : ℕ} {progress : Progress T} (after : After before declared k j progress trace) (e : Entry T) where
    -- the state of each side once one has reported an entry that passes
    stands_reported : (side : Side) → (state_of_side side progress).given ≡ None →
        Passes before declared k side (state_of_side side progress) (offset_of side progress.window) j e → (other : Side) →
        SeatStands before declared k other (state_of_side other (with_given side e progress)) (offset_of other progress.window) j (after.older other)
        (reports_in before declared k (reported side e (Ok tt) ∷ trace) other) (has_reported same_side other (reported side e (Ok tt) ∷ trace))
    stands_reported A none p A = stands_with (place_after k A (verdicts trace)) e (after.seats A) none (asked_by_window after.led A) p
    stands_reported A none p B = after.seats B
    stands_reported B none p A = after.seats A
    stands_reported B none p B = stands_with (place_after k B (verdicts trace)) e (after.seats B) none (asked_by_window after.led B) p

    -- a run that takes a report stands to the trace with it
    after_taken : (side : Side) → (state_of_side side progress).given ≡ None →
        Passes before declared k side (state_of_side side progress) (offset_of side progress.window) j e →
        After before declared k j (with_given side e progress) (reported side e (Ok tt) ∷ trace)
    after_taken A none p =
        record { led = after.led; made_is = after.made_is; older = after.older; exchange = after.exchange; seats = stands_reported A none p }
    after_taken B none p =
        record { led = after.led; made_is = after.made_is; older = after.older; exchange = after.exchange; seats = stands_reported B none p }

    -- so does one that answers a report by its checks
    after_answered : (side : Side) (given : Option (Entry T)) (passing : Bool) → (state_of_side side progress).given ≡ given →
        test before side progress e ≡ passing →
        After before declared k j (left_by (answer_by side given passing) side e progress) (reported side e (answer_by side given passing) ∷ trace)
    after_answered side (Some earlier) passing g p = after
    after_answered side None false g p = after
    after_answered side None true g p = after_taken side g (sym (test_is after side e) ∙ p)

    -- a report leaves a run that stands to the trace with it
    pub after_report : (side : Side) (answer : Result (Unit {0}) RunFault) (left : Progress T) → Reports before side e progress answer left →
        After before declared k j left (reported side e answer ∷ trace)
    after_report side answer left r =
        subst (λ (new : Progress T). After before declared k j new (reported side e answer ∷ trace)) (sym r.1)
        (subst (λ (a : Result (Unit {0}) RunFault). After before declared k j (left_by a side e progress) (reported side e a ∷ trace)) (sym r.0)
        (after_answered side (state_of_side side progress).given (test before side progress e) refl refl))
