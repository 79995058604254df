-- A verdict leaves a run that stands to the trace with it.
use Rattle.std.proofs.Common.{◌≡◌, ℕ, suc, ◌+◌, ◌^◌, ◌≤◌, Bool, true, false, List, ◌∷◌, Some, Ok, Option, sym, refl, ap, ◌∙◌, subst, add-one, arith}
use Rattle.elements.specs.Orders.{IsOrder}
use Rattle.elements.specs.declared.entry.Entry.{Entry}
use Rattle.referees.specs.Verdicts.{first_of}
use Rattle.referees.specs.declared.verdict.PairVerdict.{PairVerdict}
use Rattle.pair.specs.Exchanges.{with_round, Exchange, Accepted, compared}
use Rattle.pair.specs.SeatBounds.{passes}
use Rattle.pair.specs.PairLaws.{Bounded}
use Rattle.pair.specs.PairReports.{Report, KeepsRules}
use Rattle.pair.specs.Rows.{halvings}
use Rattle.pair.specs.Bisection.{OfSides, place_asked, moved}
use Rattle.pair.specs.declared.side.Side.{Side}
use Rattle.pair.proofs.TwoBounds.{bounds_decide}
use Rattle.pair.proofs.Logarithms.{half_of_power}
use Rattle.runs.specs.Traces.{stepped, verdicts}
use Rattle.pair.specs.HalvedWindow.{offset_of}
use Rattle.pair.specs.PairCalls.{Moves, step_asks}
use Rattle.pair.specs.SeatStates.{bounds_next, seat_after, state_of_side}
use Rattle.pair.specs.Histories.{PairTrace}
use Rattle.pair.specs.declared.seat_state.SeatState.{SeatState}
use Rattle.pair.specs.declared.progress.Progress.{Progress}
use Rattle.pair.proofs.ReportAnswers.{GaveBoth, asked_of_both}
use Rattle.pair.proofs.PlacesAsked.{led_on, offset_moves}
use Rattle.pair.proofs.RunStands.{SeatStands, After, reports_in, same_newest, given_is, passing_keeps_rules}

-- the place asked of a window is the last of its lower seat
in_the_middle : (offset j : ℕ) → place_asked offset (2 ^ suc j) ≡ offset + 2 ^ j
in_the_middle offset j = ap (λ (h : ℕ). offset + h) (half_of_power j)

module _ {T : Type 0} {before : T → T → Bool} (o : IsOrder before) {declared : OfSides} {k : ℕ} where
  module _ {side : Side} {seat : SeatState T} {offset j : ℕ} {older reports : List (Report T)} {has : Bool} {e : Entry T}
      (stands : SeatStands before declared k side seat offset (suc j) older reports has) (given : seat.given ≡ Some e) where
    -- what a side gave in this round keeps the rules
    gave_by_rules : KeepsRules before side k (declared side) older (record { place = offset + 2 ^ j; entry = e })
    gave_by_rules =
        subst (λ (place : ℕ). KeepsRules before side k (declared side) older (record { place = place; entry = e })) (in_the_middle offset j)
        (passing_keeps_rules o stands e (given_is stands given).2)

    -- the state of a side after a verdict on it
    stands_after : (verdict : PairVerdict) →
        SeatStands before declared k side (seat_after side verdict seat) (moved side verdict (2 ^ j) offset) j
        (record { place = offset + 2 ^ j; entry = e } ∷ older) reports false
    stands_after verdict =
        let gave = given_is stands given in
        let bounded : Bounded before side k (declared side) offset (j + 1) seat.bounds older
        = subst (λ (i : ℕ). Bounded before side k (declared side) offset i seat.bounds older) (sym (add-one j)) stands.bounded in
        let passed : passes before side k (declared side) offset (2 ^ (j + 1)) seat.bounds e ≡ true
        = subst (λ (i : ℕ). passes before side k (declared side) offset (2 ^ i) seat.bounds e ≡ true) (sym (add-one j)) gave.2 in
        record {
          declared_is = stands.declared_is;
          bounded =
              subst (λ (given : Option (Entry T)).
              Bounded before side k (declared side) (moved side verdict (2 ^ j) offset) j (bounds_next side verdict given seat.bounds)
              (record { place = offset + 2 ^ j; entry = e } ∷ older)) (sym given)
              ((bounds_decide o).halved side k (declared side) offset j seat.bounds older e verdict bounded passed);
          given = (gave.0 ∙ same_newest e (in_the_middle offset j) refl, refl);
        }

  module _ (trace : PairTrace T) {j : ℕ} {old new : Progress T} {verdict : PairVerdict} (after : After before declared k (suc j) old trace)
      (moves : Moves old verdict new) (both : GaveBoth (λ given. first_of before given.0 given.1) old verdict) where
    -- the reports of earlier rounds, and of this one
    abbrev reports_on : Side → List (Report T)
    reports_on = with_round after.older (λ side. offset_of side old.window + 2 ^ j) both.entries

    -- they go on with the exchange
    exchange_on : Exchange before k declared (λ side. offset_of side new.window) j reports_on (verdict ∷ verdicts trace)
    exchange_on =
        let offsets : ◌≡◌ {A = OfSides} (λ side. moved side verdict (2 ^ j) (offset_of side old.window)) (λ side. offset_of side new.window)
        = λ i side. offset_moves after.led moves.window side i in
        let accepted : Accepted before k declared after.older (λ side. offset_of side old.window + 2 ^ j) both.entries
        = λ side. gave_by_rules (after.seats side) (both.given side) in
        subst (λ (at : OfSides). Exchange before k declared at j reports_on (verdict ∷ verdicts trace)) offsets
        (subst (λ (v : PairVerdict). Exchange before k declared (λ side. moved side v (2 ^ j) (offset_of side old.window)) j reports_on (v ∷ verdicts trace))
        both.true_answer (compared both.entries after.exchange accepted))

    -- the state of each side after the verdict on both
    stands_on : (side : Side) →
        SeatStands before declared k side (state_of_side side new) (offset_of side new.window) j (reports_on side) (reports_in before declared k trace side) false
    stands_on side =
        let reports = reports_in before declared k trace side in
        subst (λ (seat : SeatState T). SeatStands before declared k side seat (offset_of side new.window) j (reports_on side) reports false) (sym (moves.seats side))
        (subst (λ (offset : ℕ). SeatStands before declared k side (seat_after side verdict (state_of_side side old)) offset j (reports_on side) reports false)
        (offset_moves after.led moves.window side) (stands_after (after.seats side) (both.given side) verdict))

  -- a verdict on what both sides gave leaves a run that stands to the trace with it
  pub after_verdict : (stock : ℕ) (trace : PairTrace T) {j : ℕ} {old new : Progress T} {verdict : PairVerdict} → halvings k ≤ 17 →
      step_asks before old stock ≡ Ok verdict → Moves old verdict new → After before declared k (suc j) old trace →
      After before declared k j new (stepped stock (Ok verdict) ∷ trace)
  after_verdict stock trace {old = old} {verdict = verdict} few answers moves after =
      let both = asked_of_both (λ given. first_of before given.0 given.1) old stock verdict answers in
      record {
        led = led_on after.led moves.window;
        made_is = omega (arith, moves.made, after.made_is, after.led.rounds);
        older = reports_on trace after moves both;
        exchange = exchange_on trace after moves both;
        seats = stands_on trace after moves both;
      }
