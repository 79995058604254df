-- Nested pairs of seat states as one list.
use Rattle.std.specs.Prelude.{List, [], ◌∷◌}
use Rattle.group.specs.declared.seat_state.SeatState.{SeatState}
use Rattle.group.specs.declared.seat_table.Both.{Both}

-- two lists of one length taken in turns, from the first of the one on
abbrev pub weave : {X : Type 0} → List X → List X → List X
weave [] ys = []
weave (x ∷ xs) [] = []
weave (x ∷ xs) (y ∷ ys) = x ∷ y ∷ weave xs ys

-- one seat
abbrev pub one_seat : SeatState → List SeatState
one_seat seat = seat ∷ []

-- both parts of some seats: those of even numbers are in the one, those of odd ones in the other
abbrev pub in_turns : {R : Type 0} → (R → List SeatState) → Both R → List SeatState
in_turns seats both = weave (seats both.even) (seats both.odd)

-- a table's seats as one list, of which there are 16
unfoldable pub table_seats : Both (Both (Both (Both SeatState))) → List SeatState
table_seats = in_turns (in_turns (in_turns (in_turns one_seat)))
