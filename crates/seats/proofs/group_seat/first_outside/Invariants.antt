use Rattle.std.proofs.Common.{ℕ, ◌<◌, ◌≤◌}
use Rattle.std.specs.Prelude.{slice_index_or}
use Rattle.seats.proofs.group_seat.first_outside.Given as goal

-- every element so far is in the range
abbrev pub invariant-loop-i : goal.invariant-loop-i
invariant-loop-i g l =
    (j : ℕ) (d : g.row.T.Denot) → j < l.i →
    (l.range.from ≤ g.T.Placed.place (slice_index_or l.list j d)) × (g.T.Placed.place (slice_index_or l.list j d) ≤ l.range.to)
