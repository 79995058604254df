-- What the calls on the seats of a group answer and leave.
use Rattle.std.specs.Prelude.{◌≡◌, ℕ, ◌+◌, ◌-◌, ◌≤◌, ◌<◌, List, [], ◌∷◌, ◌++◌, map, take, Some, None, Ok, Err, Result, slice_set}
use Rattle.elements.specs.Limits.{longest_list}
use Rattle.std.specs.List.{sum}
use Rattle.faults.specs.declared.refusal.Refusal.{Refusal}
use Rattle.faults.specs.declared.refusal.Refusal.TheVariants.{ListTooLong}
use Rattle.group.specs.declared.range.Range.{Range}
use Rattle.group.specs.SeatTables.{table_seats}
use Rattle.group.specs.declared.seat_state.SeatState.{SeatState}
use Rattle.group.specs.declared.counts.Counts.{Counts}
use Rattle.group.specs.SeatValues.{SeatValue, seat_value, new_seat, with_counts, seat_number, seats_refusal, seat_refusal}
use Rattle.group.specs.declared.group_seats.GroupSeats.{GroupSeats}

-- the states of the seats, in the order of their numbers
abbrev pub seats_of : GroupSeats → List SeatValue
seats_of seats = map seat_value (take seats.count (table_seats seats.table))

-- how many seats there are, and the sum of the lengths that they declared
abbrev pub count_of : GroupSeats → ℕ
count_of seats = seats.count

abbrev pub total_of : GroupSeats → ℕ
total_of seats = seats.total

-- no seat
abbrev pub IsEmpty : GroupSeats → Type 0
IsEmpty seats = (seats.count ≡ 0) × (seats.total ≡ 0)

-- one seat more, unless its length is over 65,536
abbrev pub IsSeated : GroupSeats → (declared : ℕ) → GroupSeats → Result (Unit {0}) Refusal → Type 0
IsSeated old declared new (Ok u) =
    (declared ≤ longest_list) × (new.count ≡ old.count + 1) × (new.total ≡ old.total + declared)
    × (seats_of new ≡ seats_of old ++ (new_seat declared ∷ []))
IsSeated old declared new (Err refusal) = (longest_list < declared) × (refusal ≡ ListTooLong) × (new ≡ old)

-- a seat for each length, of which none is too long, in their order
abbrev pub Seats : List ℕ → Result GroupSeats Refusal → Type 0
Seats lengths (Ok seats) =
    (seats_refusal lengths ≡ None) × (seats_of seats ≡ map new_seat lengths) × (seats.total ≡ sum lengths)
Seats lengths (Err refusal) = seats_refusal lengths ≡ Some refusal

-- counts at the target of a range are what a seat's state has given; refused, nothing changes
abbrev pub TakesCounts : Range → Counts → SeatState → SeatState → Result (Unit {0}) Refusal → Type 0
TakesCounts range counts old new (Ok u) =
    (seat_refusal range.from range.to (Some (seat_value old)) counts ≡ None) × (seat_value new ≡ with_counts counts (seat_value old))
TakesCounts range counts old new (Err refusal) =
    (seat_refusal range.from range.to (Some (seat_value old)) counts ≡ Some refusal) × (new ≡ old)

-- a report is what its seat has given in this round, and nothing else changes; refused, nothing does
abbrev pub TakesReport : Range → (number : ℕ) → Counts → GroupSeats → GroupSeats → Result (Unit {0}) Refusal → Type 0
TakesReport range number counts old new (Ok u) =
    (seat_refusal range.from range.to (seat_number (seats_of old) number) counts ≡ None) × (new.total ≡ old.total)
    × ((was : SeatValue) × (seat_number (seats_of old) number ≡ Some was)
    × (seats_of new ≡ slice_set (seats_of old) (number - 1) (with_counts counts was)))
TakesReport range number counts old new (Err refusal) =
    (seat_refusal range.from range.to (seat_number (seats_of old) number) counts ≡ Some refusal) × (new ≡ old)
