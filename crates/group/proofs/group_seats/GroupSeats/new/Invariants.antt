-- The loop has seated the lengths so far, and none of them is too long: if one of all is, it is among the rest.
use Rattle.std.proofs.Common.{◌≡◌, map, take, drop}
use Rattle.std.specs.List.{sum}
use Rattle.group.specs.SeatValues.{new_seat, some_too_long}
use Rattle.group.specs.SeatCalls.{seats_of}
use Rattle.group.proofs.group_seats.GroupSeats.new.Given as goal

abbrev pub invariant-loop-declared : goal.invariant-loop-declared
invariant-loop-declared l = record {
  count : l.seats.count ≡ l.declared-index;
  seats : seats_of l.seats ≡ map new_seat (take l.declared-index l.lengths);
  total : l.seats.total ≡ sum (take l.declared-index l.lengths);
  long : some_too_long l.lengths ≡ some_too_long (drop l.declared-index l.lengths);
}
