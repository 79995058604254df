-- How a run stands to a trace: to its verdicts, its accepted reports, and who has reported since the last verdict.
use Rattle.std.proofs.Common.{◌≡◌, ℕ, ◌^◌, ◌≤◌, Bool, true, false, List, [], ◌∷◌, length, Some, None, Option, sym, refl, ap, ap₂, ◌∙◌, subst, arith}
use Rattle.elements.specs.Orders.{IsOrder}
use Rattle.elements.specs.declared.entry.Entry.{Entry}
use Rattle.referees.specs.declared.verdict.PairVerdict.{PairVerdict}
use Rattle.pair.specs.Exchanges.{Exchange, opened}
use Rattle.pair.specs.SeatBounds.{passes}
use Rattle.pair.specs.PairLaws.{Bounded}
use Rattle.pair.specs.PairReports.{Report, Consistent, KeepsRules}
use Rattle.pair.specs.Rows.{halvings}
use Rattle.pair.specs.Bisection.{OfSides, place_asked}
use Rattle.pair.specs.declared.side.Side.{Side}
use Rattle.pair.proofs.TwoBounds.{bounds_decide}
use Rattle.pair.proofs.Nearest.{rules_keep_consistent, consistent_keeps_rules}
use Rattle.runs.specs.HistoryLaw.{reports_of}
use Rattle.runs.specs.Traces.{verdicts, has_reported}
use Rattle.pair.specs.HalvedWindow.{offset_of}
use Rattle.pair.specs.PairCalls.{IsOpened}
use Rattle.pair.specs.SeatStates.{new_seat, state_of_side}
use Rattle.pair.specs.Histories.{PairTrace}
use Rattle.pair.specs.declared.seat_state.SeatState.{SeatState}
use Rattle.pair.specs.declared.progress.Progress.{Progress}
use Rattle.pair.specs.PairProtocol.{same_side, pair_protocol}
use Rattle.pair.proofs.PlacesAsked.{LedTo, size_is, led_to_whole}

-- a run's test of an entry that a side reports
abbrev pub test : {T : Type 0} → (T → T → Bool) → Side → Progress T → Entry T → Bool
test before side progress e =
    let seat = state_of_side side progress in
    passes before side progress.window.rank seat.declared (offset_of side progress.window) progress.window.size seat.bounds e

-- the report of an entry at the place that a window with this offset and size 2 ^ j asks for
abbrev pub at_asked : {T : Type 0} → (offset j : ℕ) → Entry T → Report T
at_asked offset j e = record { place = place_asked offset (2 ^ j); entry = e }

-- an entry reported at one place after the same reports
pub same_newest : {T : Type 0} (e : Entry T) {place other : ℕ} {reports others : List (Report T)} → place ≡ other → reports ≡ others →
    ◌≡◌ {A = List (Report T)} (record { place = place; entry = e } ∷ reports) (record { place = other; entry = e } ∷ others)
same_newest {T} e = ap₂ {C = List (Report T)} (λ (place : ℕ) (reports : List (Report T)). record { place = place; entry = e } ∷ reports)

module _ {T : Type 0} (before : T → T → Bool) (declared : OfSides) (k : ℕ) where
  module _ (side : Side) (seat : SeatState T) (offset j : ℕ) where
    -- an entry passes the test of a side's window and bounds
    abbrev pub Passes : Entry T → Type 0
    Passes e = passes before side k (declared side) offset (2 ^ j) seat.bounds e ≡ true

    -- what a side has given in this round, if it has, passed the test and is the newest of its reports
    abbrev pub Given : (older reports : List (Report T)) → (has : Bool) → Option (Entry T) → Type 0
    Given older reports has None = (reports ≡ older) × (has ≡ false)
    Given older reports has (Some e) = (reports ≡ at_asked offset j e ∷ older) × (has ≡ true) × Passes e

    -- the state of a side stands to its reports: its declared length, bounds by those of earlier rounds, and what it has given
    pub record SeatStands (older reports : List (Report T)) (has : Bool) : Type 0 where
      pub declared_is : seat.declared ≡ declared side
      pub bounded : Bounded before side k (declared side) offset j seat.bounds older
      pub given : Given older reports has seat.given

  -- A run stands to verdicts, reports of each side, and whether each has reported in this round: its window is the one to
  -- which the verdicts lead, and the reports of earlier rounds are those of an exchange.
  pub record Stands (j : ℕ) (progress : Progress T) (made : List PairVerdict) (reports : Side → List (Report T)) (has : Side → Bool) : Type 0 where
    pub led : LedTo k j made progress.window
    pub made_is : progress.made ≡ length made
    pub older : Side → List (Report T)
    pub exchange : Exchange before k declared (λ side. offset_of side progress.window) j older made
    pub seats : (side : Side) → SeatStands side (state_of_side side progress) (offset_of side progress.window) j (older side) (reports side) (has side)

  -- the accepted reports of a side in a trace
  abbrev pub reports_in : PairTrace T → Side → List (Report T)
  reports_in trace side = reports_of (pair_protocol before declared k) side trace

  -- a run stands to a trace
  abbrev pub After : (j : ℕ) → Progress T → PairTrace T → Type 0
  After j progress trace = Stands j progress (verdicts trace) (reports_in trace) (λ side. has_reported same_side side trace)

module _ {T : Type 0} {before : T → T → Bool} {declared : OfSides} {k : ℕ} where
  -- what a side has given, where this is
  pub given_is : {side : Side} {seat : SeatState T} {offset j : ℕ} {older reports : List (Report T)} {has : Bool} {given : Option (Entry T)} →
      SeatStands before declared k side seat offset j older reports has → seat.given ≡ given → Given before declared k side seat offset j older reports has given
  given_is {side = side} {seat = seat} {offset = offset} {j = j} {older = older} {reports = reports} {has = has} stands is =
      subst (Given before declared k side seat offset j older reports has) is stands.given

  -- the test of a run that stands to a trace is that of its windows and bounds
  pub test_is : {j : ℕ} {progress : Progress T} {made : List PairVerdict} {reports : Side → List (Report T)} {has : Side → Bool} →
      Stands before declared k j progress made reports has → (side : Side) (e : Entry T) →
      test before side progress e ≡ passes before side k (declared side) (offset_of side progress.window) (2 ^ j) (state_of_side side progress).bounds e
  test_is {progress = progress} stands side e =
      let seat = state_of_side side progress in
      let offset = offset_of side progress.window in
      ap (λ (rank : ℕ). passes before side rank seat.declared offset progress.window.size seat.bounds e) stands.led.rank_is
      ∙ ap (λ (d : ℕ). passes before side k d offset progress.window.size seat.bounds e) (stands.seats side).declared_is
      ∙ ap (λ (size : ℕ). passes before side k (declared side) offset size seat.bounds e) (size_is stands.led)

module _ {T : Type 0} {before : T → T → Bool} (o : IsOrder before) {declared : OfSides} {k : ℕ} where
  module _ {side : Side} {seat : SeatState T} {offset j : ℕ} {older reports : List (Report T)} {has : Bool}
      (stands : SeatStands before declared k side seat offset j older reports has) where
    -- an entry that passes the test keeps the rules
    pub passing_keeps_rules : (e : Entry T) → Passes before declared k side seat offset j e →
        KeepsRules before side k (declared side) older (at_asked offset j e)
    passing_keeps_rules e p = (bounds_decide o).passed side k (declared side) offset j seat.bounds older e stands.bounded p

    -- so it is consistent with the reports of earlier rounds
    pub passing_is_consistent : (e : Entry T) → Passes before declared k side seat offset j e →
        Consistent before side k (declared side) (at_asked offset j e ∷ older)
    passing_is_consistent e p =
        let some : 1 ≤ place_asked offset (2 ^ j) = omega arith in
        rules_keep_consistent side k (declared side) older (at_asked offset j e) o stands.bounded.consistent some (passing_keeps_rules e p)

    -- and one that is consistent with them passes
    pub consistent_passes : (e : Entry T) → Consistent before side k (declared side) (at_asked offset j e ∷ older) →
        Passes before declared k side seat offset j e
    consistent_passes e c =
        (bounds_decide o).passing side k (declared side) offset j seat.bounds older e stands.bounded
        (consistent_keeps_rules side k (declared side) older (at_asked offset j e) c)

    -- all that a side has reported is consistent
    pub reports_consistent : Consistent before side k (declared side) reports
    reports_consistent = of_given seat.given stands.given
      where
        -- whatever it has given
        of_given : (given : Option (Entry T)) → Given before declared k side seat offset j older reports has given →
            Consistent before side k (declared side) reports
        of_given None g = subst (Consistent before side k (declared side)) (sym g.0) stands.bounded.consistent
        of_given (Some e) g = subst (Consistent before side k (declared side)) (sym g.0) (passing_is_consistent e g.2)

  -- a run just opened stands to the empty trace
  pub after_opening : (progress : Progress T) → IsOpened declared k progress → After before declared k (halvings k) progress []
  after_opening progress new =
      let offsets : ◌≡◌ {A = OfSides} (λ side. 0) (λ side. offset_of side progress.window) = λ i side. sym (new.window.at_start side) i in
      record {
        led = led_to_whole k progress.window new.window;
        made_is = new.made;
        older = λ side. [];
        exchange = subst (λ (at : OfSides). Exchange before k declared at (halvings k) (λ side. []) []) offsets opened;
        seats = λ side.
            subst (λ (seat : SeatState T). SeatStands before declared k side seat (offset_of side progress.window) (halvings k) [] [] false) (sym (new.seats side))
            (subst (λ (offset : ℕ). SeatStands before declared k side (new_seat (declared side)) offset (halvings k) [] [] false) (sym (new.window.at_start side))
            (record { declared_is = refl; bounded = (bounds_decide o).opened side k (declared side); given = (refl, refl) }));
      }
