-- The half of a pair that a number's last bit picks, the state of a table that its last four bits pick, and what is left of the
-- whole where one of these is lent.
use Rattle.std.specs.Prelude.{ℕ, cond, ◌==◌, ◌/◌, ◌%◌}
use Rattle.std.specs.Borrow.{Lends, Fml, RattleType, MutBor}
use Rattle.group.specs.declared.seat_state.SeatState.{SeatState}
use Rattle.group.specs.declared.seat_table.Both.{Both}
use Rattle.group.specs.contracts.seat_state.SeatState.{the_row as state_row}
use Rattle.group.specs.contracts.seat_table.Both.{the_row}

abbrev pub half : {R : Type 0} → Both R → ℕ → R
half both i = cond (i % 2 == 0) both.even both.odd

-- a pair with another value in that half
abbrev pub with_half : {R : Type 0} → Both R → ℕ → R → Both R
with_half both i part = cond (i % 2 == 0) (record both { even = part }) (record both { odd = part })

-- once the borrow r ends, that half is the last value left there
abbrev pub LendsHalf : (R : RattleType) → MutBor (Both R.Denot) → ℕ → MutBor R.Denot → Fml
LendsHalf R both i r = Lends (the_row R) R both r (with_half both.now i)

unfoldable pub seat_at : Both (Both (Both (Both SeatState))) → ℕ → SeatState
seat_at table i = half (half (half (half table i) (i / 2)) (i / 4)) (i / 8)

-- a table with another state there
unfoldable pub with_seat_at : Both (Both (Both (Both SeatState))) → ℕ → SeatState → Both (Both (Both (Both SeatState)))
with_seat_at table i seat =
    let first = half table i in
    let second = half first (i / 2) in
    let third = half second (i / 4) in
    with_half table i (with_half first (i / 2) (with_half second (i / 4) (with_half third (i / 8) seat)))

-- once the borrow r ends, that state is the last one left there
abbrev pub LendsSeat : MutBor (Both (Both (Both (Both SeatState)))) → ℕ → MutBor SeatState → Fml
LendsSeat table i r = Lends (the_row (the_row (the_row (the_row state_row)))) state_row table r (with_seat_at table.now i)
