-- What the first states of seats in two parts add up to.
use Rattle.std.proofs.Common.{◌≡◌, ℕ, ◌-◌, ◌/◌, List, length, take, sym, refl}
use Rattle.group.specs.SeatTables.{weave, table_seats}
use Rattle.group.specs.SeatTotals.{given_of, below_of, above_of, totals_of, added}
use Rattle.group.specs.declared.seat_state.SeatState.{SeatState}
use Rattle.group.specs.declared.totals.Totals.{Totals}
use Rattle.group.specs.declared.seat_table.Both.{Both}
use Rattle.group.proofs.Weaves.{sum_in_turns}

-- totals with the same three numbers
same_totals : (s t : Totals) → s.given ≡ t.given → s.below ≡ t.below → s.above ≡ t.above → s ≡ t
same_totals s t p q r = λ i. record { given = p i; below = q i; above = r i }

-- the totals of the first states of two parts add up to that of the first states of both
pub totals_in_turns : (n : ℕ) (xs ys : List SeatState) → length xs ≡ length ys →
    added (totals_of (take (n - n / 2) xs)) (totals_of (take (n / 2) ys)) ≡ totals_of (take n (weave xs ys))
totals_in_turns n xs ys e =
    same_totals (added (totals_of (take (n - n / 2) xs)) (totals_of (take (n / 2) ys))) (totals_of (take n (weave xs ys)))
    (sym (sum_in_turns (λ seat. given_of seat.given) n xs ys e))
    (sym (sum_in_turns (λ seat. below_of seat.given) n xs ys e))
    (sym (sum_in_turns (λ seat. above_of seat.given) n xs ys e))

-- a table has sixteen seats
pub length_table : (seats : Both (Both (Both (Both SeatState)))) → length (table_seats seats) ≡ 16
unfolding table_seats
length_table seats = refl
