-- The state of a seat: before any report, with a report, and after a verdict.
use Rattle.std.specs.Prelude.{ℕ, Some, None, Option}
use Rattle.elements.specs.declared.entry.Entry.{Entry}
use Rattle.referees.specs.declared.verdict.PairVerdict.{PairVerdict}
use Rattle.pair.specs.SeatBounds.{bounds_after, widest}
use Rattle.pair.specs.declared.bounds.Bounds.{Bounds}
use Rattle.pair.specs.declared.side.Side.{Side}
use Rattle.pair.specs.declared.side.Side.TheVariants.{A, B}
use Rattle.pair.specs.declared.seat_state.SeatState.{SeatState}
use Rattle.pair.specs.declared.progress.Progress.{Progress}

module _ {T : Type 0} where
  abbrev pub new_seat : (declared : ℕ) → SeatState T
  new_seat declared = record { declared = declared; bounds = widest; given = None }

  abbrev pub seat_reporting : Entry T → SeatState T → SeatState T
  seat_reporting entry seat = record { declared = seat.declared; bounds = seat.bounds; given = Some entry }

  -- after a verdict on what the seat has reported, if it has: that is one of its bounds
  abbrev pub bounds_next : Side → PairVerdict → Option (Entry T) → Bounds T → Bounds T
  bounds_next side verdict None bounds = bounds
  bounds_next side verdict (Some entry) bounds = bounds_after side verdict entry bounds

  abbrev pub seat_after : Side → PairVerdict → SeatState T → SeatState T
  seat_after side verdict seat =
      record { declared = seat.declared; bounds = bounds_next side verdict seat.given seat.bounds; given = None }

  abbrev pub state_of_side : Side → Progress T → SeatState T
  state_of_side A progress = progress.a
  state_of_side B progress = progress.b
