-- The sides of a pair as faults name them.
use Rattle.pair.specs.declared.side.Side.{Side}
use Rattle.pair.specs.declared.side.Side.TheVariants as Sides
use Rattle.faults.specs.declared.seat.Seat.{Seat as Whose}
use Rattle.faults.specs.declared.seat.Seat.TheVariants.{A, B}

abbrev pub seat_of : Side → Whose
seat_of Sides.A = A
seat_of Sides.B = B
