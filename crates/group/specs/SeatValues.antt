-- The states of the seats of a group, as plain values: before any round, with a report, and after a verdict.
use Rattle.std.specs.Prelude.{ℕ, zero, suc, Bool, true, false, cond, not, ◌&&◌, ◌||◌, List, [], ◌∷◌, length, Some, None, Option, is_some, nat_lt, slice_get}
use Rattle.elements.specs.Limits.{longest_list}
use Rattle.std.specs.List.{sum_by}
use Rattle.faults.specs.declared.refusal.Refusal.{Refusal}
use Rattle.faults.specs.declared.refusal.Refusal.TheVariants.{SeatsOutOfBounds, ListTooLong, NotItsTurn, Impossible}
use Rattle.group.specs.SeatStates.{bounds_next}
use Rattle.group.specs.SeatTotals.{below_of, above_of}
use Rattle.group.specs.declared.seat_state.SeatState.{SeatState}
use Rattle.referees.specs.declared.verdict.GroupVerdict.{GroupVerdict}
use Rattle.faults.specs.RefusalOrder.{check, first_check}
use Rattle.group.specs.SeatRules.{first_bounds, keeps_rules}
use Rattle.group.specs.declared.counts.Counts.{Counts}
use Rattle.group.specs.declared.count_bounds.CountBounds.{CountBounds}

-- what is known of a seat, and the counts that it has given in this round, if it has
pub record SeatValue : Type 0 where
  pub known : CountBounds
  pub given : Option Counts

abbrev pub seat_value : SeatState → SeatValue
seat_value seat = record { known = seat.known; given = seat.given }

abbrev pub new_seat : (declared : ℕ) → SeatValue
new_seat declared = record { known = first_bounds declared; given = None }

abbrev pub with_counts : Counts → SeatValue → SeatValue
with_counts counts seat = record { known = seat.known; given = Some counts }

-- after a verdict: what the seat gave has shown more of it, and it has given nothing yet
abbrev pub seat_after : GroupVerdict → SeatValue → SeatValue
seat_after verdict seat = record { known = bounds_next verdict seat.known seat.given; given = None }

-- the seat of a number, from 1 on
abbrev pub seat_number : List SeatValue → ℕ → Option SeatValue
seat_number seats zero = None
seat_number seats (suc i) = slice_get seats i

-- every seat has given its counts in this round
abbrev pub all_given : List SeatValue → Bool
all_given [] = true
all_given (seat ∷ seats) = let others = all_given seats in is_some seat.given && others

-- the sums of what the seats have given, if all have
abbrev pub gathered : List SeatValue → Option Counts
gathered seats =
    cond (all_given seats)
    (Some (record { below = sum_by (λ seat. below_of seat.given) seats; above = sum_by (λ seat. above_of seat.given) seats }))
    None

-- some length is over 65,536
abbrev pub some_too_long : List ℕ → Bool
some_too_long [] = false
some_too_long (declared ∷ lengths) = let others = some_too_long lengths in nat_lt longest_list declared || others

-- The declared lengths: 8 where there are not 2 to 16 seats, then 9 where a length is over 65,536.
abbrev pub seats_refusal : List ℕ → Option Refusal
seats_refusal lengths =
    first_check (check (nat_lt (length lengths) 2 || nat_lt 16 (length lengths)) SeatsOutOfBounds
    ∷ check (some_too_long lengths) ListTooLong
    ∷ [])

-- a report of a seat that there is not, or that has given its counts in this round
abbrev pub not_its_turn : Option SeatValue → Bool
not_its_turn None = true
not_its_turn (Some seat) = is_some seat.given

-- a report that does not keep the rules at the target of a range
abbrev pub breaks_rules : (a b : ℕ) → Option SeatValue → Counts → Bool
breaks_rules a b None counts = false
breaks_rules a b (Some seat) counts = not (keeps_rules a b seat.known counts)

-- Report: 13 where it is not the seat's turn, then 14 where the counts do not keep the rules.
abbrev pub seat_refusal : (a b : ℕ) → Option SeatValue → Counts → Option Refusal
seat_refusal a b seat counts = first_check (check (not_its_turn seat) NotItsTurn ∷ check (breaks_rules a b seat counts) Impossible ∷ [])
