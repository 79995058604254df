-- What the states of seats add up to.
use Rattle.std.specs.Prelude.{ℕ, ◌+◌, List, Some, None, Option}
use Rattle.std.specs.List.{sum_by}
use Rattle.group.specs.declared.seat_state.SeatState.{SeatState}
use Rattle.group.specs.declared.totals.Totals.{Totals}
use Rattle.group.specs.declared.counts.Counts.{Counts}

-- one for a seat that has given its counts
abbrev pub given_of : Option Counts → ℕ
given_of None = 0
given_of (Some counts) = 1

-- the counts given, 0 where none are
abbrev pub below_of : Option Counts → ℕ
below_of None = 0
below_of (Some counts) = counts.below

abbrev pub above_of : Option Counts → ℕ
above_of None = 0
above_of (Some counts) = counts.above

-- how many of the seats have given their counts, and the sums of these
abbrev pub totals_of : List SeatState → Totals
totals_of seats = record {
  given = sum_by (λ seat. given_of seat.given) seats;
  below = sum_by (λ seat. below_of seat.given) seats;
  above = sum_by (λ seat. above_of seat.given) seats;
}

-- two totals added
abbrev pub added : Totals → Totals → Totals
added one other = record { given = one.given + other.given; below = one.below + other.below; above = one.above + other.above }
