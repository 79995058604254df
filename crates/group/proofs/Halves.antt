-- What is read and put in a table through the halves that a number's last bits pick.
use Rattle.std.proofs.Common.{◌≡◌, ℕ, ◌<◌, ◌/◌, ◌%◌, Bool, true, false, cond, List, length, refl, ap, sym, ◌∙◌, arith}
use Rattle.std.specs.Prelude.{Some, slice_get, slice_set, ◌==◌}
use Rattle.group.specs.Halves.{half, with_half, seat_at, with_seat_at}
use Rattle.group.specs.SeatTables.{weave, one_seat, in_turns, table_seats}
use Rattle.group.specs.declared.seat_state.SeatState.{SeatState}
use Rattle.group.specs.declared.seat_table.Both.{Both}
use Rattle.group.proofs.Weaves.{reads_by_parity, puts_by_parity}

module _ {R : Type 0} (seats : R → List SeatState) (both : Both R) (same : length (seats both.even) ≡ length (seats both.odd)) (i : ℕ) where
  -- the state of a number is that of half the number in the half that its last bit picks
  reads_half : slice_get (in_turns seats both) i ≡ slice_get (seats (half both i)) (i / 2)
  reads_half = reads_by_parity (seats both.even) (seats both.odd) same i ∙ picked (i % 2 == 0)
    where
      picked : (b : Bool) → cond b (slice_get (seats both.even) (i / 2)) (slice_get (seats both.odd) (i / 2)) ≡ slice_get (seats (cond b both.even both.odd)) (i / 2)
      picked true = refl
      picked false = refl

  -- a state put into that half is put into the pair
  puts_half : (part : R) (seat : SeatState) → seats part ≡ slice_set (seats (half both i)) (i / 2) seat →
      in_turns seats (with_half both i part) ≡ slice_set (in_turns seats both) i seat
  puts_half part seat put = picked (i % 2 == 0) put ∙ sym (puts_by_parity (seats both.even) (seats both.odd) same i seat)
    where
      picked : (b : Bool) → seats part ≡ slice_set (seats (cond b both.even both.odd)) (i / 2) seat →
          in_turns seats (cond b (record both { even = part }) (record both { odd = part }))
          ≡ cond b (weave (slice_set (seats both.even) (i / 2) seat) (seats both.odd)) (weave (seats both.even) (slice_set (seats both.odd) (i / 2) seat))
      picked true put = ap (λ l. weave l (seats both.odd)) put
      picked false put = ap (weave (seats both.even)) put

-- what is in the half is put back
same_half : {R : Type 0} (both : Both R) (i : ℕ) → with_half both i (half both i) ≡ both
same_half both i = picked (i % 2 == 0)
  where
    picked : (b : Bool) → cond b (record both { even = cond b both.even both.odd }) (record both { odd = cond b both.even both.odd }) ≡ both
    picked true = refl
    picked false = refl

-- seats in two parts, in four and in eight
abbrev two_seats : Both SeatState → List SeatState
two_seats = in_turns one_seat

abbrev four_seats : Both (Both SeatState) → List SeatState
four_seats = in_turns two_seats

abbrev eight_seats : Both (Both (Both SeatState)) → List SeatState
eight_seats = in_turns four_seats

-- the state of a number below 16 is the one that its last four bits pick
pub reads_seat_at : (table : Both (Both (Both (Both SeatState)))) (i : ℕ) → i < 16 → slice_get (table_seats table) i ≡ Some (seat_at table i)
unfolding table_seats seat_at
reads_seat_at table i below =
    let first = half table i in
    let second = half first (i / 2) in
    let third = half second (i / 4) in
    let quarter : i / 2 / 2 ≡ i / 4 = omega arith in
    let eighth : i / 4 / 2 ≡ i / 8 = omega arith in
    let none : i / 8 / 2 ≡ 0 = omega arith in
    reads_half eight_seats table refl i
    ∙ (reads_half four_seats first refl (i / 2) ∙ ap (slice_get (four_seats second)) quarter)
    ∙ (reads_half two_seats second refl (i / 4) ∙ ap (slice_get (two_seats third)) eighth)
    ∙ (reads_half one_seat third refl (i / 8) ∙ ap (slice_get (one_seat (half third (i / 8)))) none)

-- a state put there is put into the table's seats
pub puts_seat_at : (table : Both (Both (Both (Both SeatState)))) (i : ℕ) (seat : SeatState) → i < 16 →
    table_seats (with_seat_at table i seat) ≡ slice_set (table_seats table) i seat
unfolding table_seats with_seat_at
puts_seat_at table i seat below =
    let first = half table i in
    let second = half first (i / 2) in
    let third = half second (i / 4) in
    let quarter : i / 4 ≡ i / 2 / 2 = omega arith in
    let eighth : i / 8 ≡ i / 4 / 2 = omega arith in
    let none : 0 ≡ i / 8 / 2 = omega arith in
    let in_third = puts_half one_seat third refl (i / 8) seat seat (ap (λ k. slice_set (one_seat (half third (i / 8))) k seat) none) in
    let in_second = puts_half two_seats second refl (i / 4) (with_half third (i / 8) seat) seat (in_third ∙ ap (λ k. slice_set (two_seats third) k seat) eighth) in
    let in_first = puts_half four_seats first refl (i / 2) _ seat (in_second ∙ ap (λ k. slice_set (four_seats second) k seat) quarter) in
    puts_half eight_seats table refl i _ seat in_first

-- the state that is there is put back
pub same_seat_at : (table : Both (Both (Both (Both SeatState)))) (i : ℕ) → with_seat_at table i (seat_at table i) ≡ table
unfolding seat_at with_seat_at
same_seat_at table i =
    let first = half table i in
    let second = half first (i / 2) in
    let third = half second (i / 4) in
    ap (λ l. with_half table i (with_half first (i / 2) (with_half second (i / 4) l))) (same_half third (i / 8))
    ∙ ap (λ l. with_half table i (with_half first (i / 2) l)) (same_half second (i / 4))
    ∙ ap (with_half table i) (same_half first (i / 2))
    ∙ same_half table i
