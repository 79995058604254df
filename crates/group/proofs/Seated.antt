-- The seats are the first n of some states: what is read of them, and what a put leaves.
use Rattle.std.proofs.Common.{◌≡◌, ℕ, zero, suc, ◌+◌, ◌-◌, ◌<◌, ◌≤◌, List, [], ◌∷◌, ◌++◌, map, length, take, set, refl, ap, ◌∙◌, le_of_suc-le-suc, arith}
use Rattle.std.specs.Prelude.{Some, slice_get}
use Rattle.std.specs.Option.{option_map}
use Rattle.std.proofs.Math.Seq.{take-set-lt}
use Rattle.std.proofs.lemmas.List.{length-map, length-take, map-set, map_push, take_more_set}
use Rattle.std.proofs.lemmas.Option.{none-some, slice_get-map, slice_get_within}
use Rattle.group.specs.declared.seat_state.SeatState.{SeatState}
use Rattle.group.specs.SeatValues.{SeatValue, seat_value, seat_number}

-- the values of the first n states
abbrev pub seated : ℕ → List SeatState → List SeatValue
seated n states = map seat_value (take n states)

-- below n, the first n elements of a list are read as in the list
slice_get-take : {X : Type 0} (n : ℕ) (xs : List X) (i : ℕ) → i < n → slice_get (take n xs) i ≡ slice_get xs i
slice_get-take zero xs i below = absurd (omega arith)
slice_get-take (suc n) [] i below = refl
slice_get-take (suc n) (x ∷ xs) zero below = refl
slice_get-take (suc n) (x ∷ xs) (suc i) below = slice_get-take n xs i (le_of_suc-le-suc below)

-- the seat of a number from 1 to n is the state one place before it, since states are counted from 0 on
pub seat_number_is : (n : ℕ) (states : List SeatState) (number : ℕ) → 0 < number → number ≤ n →
    seat_number (seated n states) number ≡ option_map seat_value (slice_get states (number - 1))
seat_number_is n states zero some few = absurd (omega arith)
seat_number_is n states (suc i) some few =
    let before : suc i - 1 ≡ i = omega arith in
    rw before (slice_get-map seat_value (take n states) i ∙ ap (option_map seat_value) (slice_get-take n states i (omega arith)))

-- a number that a seat has is from 1 to n
number_within : (n : ℕ) (states : List SeatState) (number : ℕ) (value : SeatValue) → seat_number (seated n states) number ≡ Some value →
    (0 < number) × (number ≤ n)
number_within n states zero value is = absurd (none-some value is)
number_within n states (suc i) value is =
    (omega arith, omega (arith, slice_get_within (seated n states) i value is, length-map (take n states) seat_value, length-take n states))

-- a state put in the place of a seat is that seat, and the others stay
pub seated_set : (n : ℕ) (states : List SeatState) (number : ℕ) (value : SeatValue) (seat : SeatState) → seat_number (seated n states) number ≡ Some value →
    seated n (set states (number - 1) seat) ≡ set (seated n states) (number - 1) (seat_value seat)
seated_set n states number value seat is =
    let within = number_within n states number value is in
    let below : number - 1 < n = omega arith in
    rw take-set-lt (map-set seat_value (take n states) (number - 1) seat)

-- a state put right after the seats is one seat more, the last
pub seated_more : (n : ℕ) (states : List SeatState) (seat : SeatState) → n < length states →
    seated (n + 1) (set states n seat) ≡ seated n states ++ (seat_value seat ∷ [])
seated_more n states seat room = rw take_more_set (map_push seat_value (take n states) seat)
