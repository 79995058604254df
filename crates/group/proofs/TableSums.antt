-- What the first states add up to is what the seats have given, if all have.
use Rattle.std.proofs.Common.{◌≡◌, ℕ, ◌<◌, ◌≤◌, true, false, List, [], ◌∷◌, length, get_or, map, take, sym, refl, arith}
use Rattle.std.specs.Prelude.{Some, None, Option, is_some}
use Rattle.std.specs.List.{sum_by}
use Rattle.std.proofs.lemmas.Bool.{and_from, and_parts, false_from_ne_true, false≢true}
use Rattle.std.proofs.lemmas.List.{length-map, length-take}
use Rattle.std.proofs.lemmas.List.Sums.{sum_by-cons, sum_by-le}
use Rattle.group.specs.SeatTotals.{given_of, below_of, above_of, totals_of}
use Rattle.group.specs.declared.seat_state.SeatState.{SeatState}
use Rattle.group.specs.declared.counts.Counts.{Counts}
use Rattle.group.specs.SeatValues.{SeatValue, seat_value, all_given, gathered}
use Rattle.group.proofs.Seated.{seated}

-- a sum over a mapped list is a sum over the list itself
pub sum_by-map : {X Y : Type 0} (f : Y → ℕ) (g : X → Y) (xs : List X) → sum_by f (map g xs) ≡ sum_by (λ x. f (g x)) xs
sum_by-map f g [] = refl
sum_by-map f g (x ∷ xs) =
    omega (arith, sum_by-cons f (g x) (map g xs), sum_by-cons (λ y. f (g y)) x xs, sum_by-map f g xs)

-- a sum over the seats is one over their states
seated_sum : (f : Option Counts → ℕ) (n : ℕ) (states : List SeatState) →
    sum_by (λ value. f value.given) (seated n states) ≡ sum_by (λ seat. f seat.given) (take n states)
seated_sum f n states = sum_by-map (λ (value : SeatValue). f value.given) seat_value (take n states)

-- how many seats have given their counts
abbrev given_count : List SeatValue → ℕ
given_count seats = sum_by (λ value. given_of value.given) seats

-- a seat has given its counts once at most
once : (given : Option Counts) → given_of given ≤ 1
once None = omega arith
once (Some counts) = omega arith

-- a seat that has given its counts has given them once
given_once : (given : Option Counts) → is_some given ≡ true → given_of given ≡ 1
given_once None some = absurd (false≢true some)
given_once (Some counts) some = refl

-- a seat counts as one only if it has given its counts
once_given : (given : Option Counts) → 1 ≤ given_of given → is_some given ≡ true
once_given None one = absurd (omega arith)
once_given (Some counts) one = refl

-- if all seats have given their counts, as many have as there are
all_counted : (seats : List SeatValue) → all_given seats ≡ true → given_count seats ≡ length seats
all_counted [] all = refl
all_counted (value ∷ seats) all =
    let parts = and_parts (is_some value.given) (all_given seats) all in
    omega (arith, sum_by-cons (λ (seat : SeatValue). given_of seat.given) value seats, given_once value.given parts.0, all_counted seats parts.1)

-- if as many seats have given their counts as there are, all have
counted_all : (seats : List SeatValue) → length seats ≤ given_count seats → all_given seats ≡ true
counted_all [] counted = refl
counted_all (value ∷ seats) counted =
    let first = sum_by-cons (λ (seat : SeatValue). given_of seat.given) value seats in
    let here = once value.given in
    let others = sum_by-le (λ (seat : SeatValue). given_of seat.given) 1 seats (λ k d within. once (get_or seats k d).given) in
    and_from (is_some value.given) (all_given seats) (once_given value.given (omega arith)) (counted_all seats (omega arith))

-- where fewer have given their counts than there are seats, not all have
pub gathers_none : (n : ℕ) (states : List SeatState) → n ≤ length states → (totals_of (take n states)).given < n → None ≡ gathered (seated n states)
gathers_none n states room few =
    let some_missing : all_given (seated n states) ≡ false
    = false_from_ne_true (all_given (seated n states)) (λ all.
    omega (
      arith,
      all_counted (seated n states) all,
      seated_sum given_of n states,
      length-map (take n states) seat_value,
      length-take n states,
    )) in
    rw some_missing refl

-- where as many have, all have, and the sums over the states are those over the seats
pub gathers_all : (n : ℕ) (states : List SeatState) → n ≤ (totals_of (take n states)).given →
    Some (record { below = (totals_of (take n states)).below; above = (totals_of (take n states)).above }) ≡ gathered (seated n states)
gathers_all n states many =
    let all : all_given (seated n states) ≡ true
    = counted_all (seated n states) (omega (arith, seated_sum given_of n states, length-map (take n states) seat_value, length-take n states)) in
    let below = sym (seated_sum below_of n states) in
    let above = sym (seated_sum above_of n states) in
    rw all (λ i. Some (record { below = below i; above = above i }))
