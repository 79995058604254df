-- A report that a seat's state takes is a report of the seat.
use Rattle.std.proofs.Common.{◌≡◌, ℕ, ◌-◌, ◌*◌, ◌<◌, ◌≤◌, set, ap, ◌∙◌, arith}
use mathlib.Core.HLevel.{is_prop→PathP}
use Rattle.std.proofs.Math.Bridge.{le_prop}
use Rattle.std.specs.Option.{option_map}
use Rattle.std.specs.Prelude.{Some, Ok, Err, Result}
use Rattle.elements.specs.Limits.{longest_list}
use Rattle.faults.specs.declared.refusal.Refusal.{Refusal}
use Rattle.group.specs.Halves.{seat_at, with_seat_at}
use Rattle.group.specs.SeatCalls.{seats_of, TakesCounts, TakesReport}
use Rattle.group.specs.SeatTables.{table_seats}
use Rattle.group.specs.SeatValues.{seat_value, seat_number, seat_refusal}
use Rattle.group.specs.declared.counts.Counts.{Counts}
use Rattle.group.specs.declared.group_seats.GroupSeats.{GroupSeats}
use Rattle.group.specs.declared.range.Range.{Range}
use Rattle.group.specs.declared.seat_state.SeatState.{SeatState}
use Rattle.group.specs.declared.seat_table.Both.{Both}
use Rattle.group.proofs.Halves.{reads_seat_at, puts_seat_at, same_seat_at}
use Rattle.group.proofs.Seated.{seated, seat_number_is, seated_set}

module _ (n : ℕ) (table : Both (Both (Both (Both SeatState)))) (number : ℕ) (room : n ≤ 16) (some : 0 < number) (few : number ≤ n) where
  -- the seat of a number from 1 to n has the state one place before it
  seat_is : seat_number (seated n (table_seats table)) number ≡ Some (seat_value (seat_at table (number - 1)))
  seat_is = seat_number_is n (table_seats table) number some few ∙ ap (option_map seat_value) (reads_seat_at table (number - 1) (omega arith))

  -- another state there is that seat, and the others stay
  seats_with : (seat : SeatState) →
      seated n (table_seats (with_seat_at table (number - 1) seat)) ≡ set (seated n (table_seats table)) (number - 1) (seat_value seat)
  seats_with seat =
      ap (seated n) (puts_seat_at table (number - 1) seat (omega arith))
      ∙ seated_set n (table_seats table) number (seat_value (seat_at table (number - 1))) seat seat_is

-- seats that are as many, in the same states and of the same sum are the same
same_seats : (old new : GroupSeats) → new.count ≡ old.count → new.table ≡ old.table → new.total ≡ old.total → new ≡ old
same_seats old new count table total = λ i. record {
  count = count i;
  table = table i;
  total = total i;
  few = is_prop→PathP (λ j. count j ≤ 16) (λ j. le_prop) new.few old.few i;
  small = is_prop→PathP (λ j. total j ≤ longest_list * count j) (λ j. le_prop) new.small old.small i;
}

-- what the state of a seat takes is a report of that seat
pub takes_report : (range : Range) (number : ℕ) (counts : Counts) (old new : GroupSeats) (seat : SeatState) (answer : Result (Unit {0}) Refusal) →
    0 < number → number ≤ old.count → new.count ≡ old.count → new.total ≡ old.total → new.table ≡ with_seat_at old.table (number - 1) seat →
    TakesCounts range counts (seat_at old.table (number - 1)) seat answer → TakesReport range number counts old new answer
takes_report range number counts old new seat (Ok u) some few count total table takes =
    let is = seat_is old.count old.table number old.few some few in (
      ap (λ s. seat_refusal range.from range.to s counts) is ∙ takes.0,
      total,
      (
        seat_value (seat_at old.table (number - 1)),
        is,
        ap (λ n. seated n (table_seats new.table)) count
            ∙ ap (λ t. seated old.count (table_seats t)) table
            ∙ seats_with old.count old.table number old.few some few seat
            ∙ ap (set (seats_of old) (number - 1)) takes.1,
      ),
    )
takes_report range number counts old new seat (Err refusal) some few count total table takes =
    let is = seat_is old.count old.table number old.few some few in
    let same : new.table ≡ old.table = table ∙ ap (with_seat_at old.table (number - 1)) takes.1 ∙ same_seat_at old.table (number - 1) in
    (ap (λ s. seat_refusal range.from range.to s counts) is ∙ takes.0, same_seats old new count same total)
