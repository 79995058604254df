-- Elements of lists by their index, and seats by their number, which is one more.
use Rattle.std.proofs.Common.{◌≡◌, ◌≢◌, ℕ, zero, suc, ◌-◌, ◌<◌, ◌≤◌, ◌⊎◌, List, [], ◌∷◌, map, length, get_or, set, Some, sym, refl, ap, ◌∙◌, inl, inr, arith}
use Rattle.std.specs.List.{AllByRecursion as Each, AllZip}
use Rattle.std.specs.Prelude.{slice_get}
use Rattle.std.proofs.lemmas.Option.{none-some, same_Some, slice_get_within, get_or_from_slice_get}
use Rattle.group.specs.SeatValues.{SeatValue, seat_number}

module _ {X : Type 0} where
  -- what holds of the element at each index holds of each element
  pub each_by_index : (P : X → Type 0) (xs : List X) → ((i : ℕ) (x : X) → slice_get xs i ≡ Some x → P x) → Each P xs
  each_by_index P [] h = tt
  each_by_index P (x ∷ xs) h = (h zero x refl, each_by_index P xs (λ i. h (suc i)))

  -- an index in a list is one of an element
  element_at : (xs : List X) (i : ℕ) → i < length xs → (x : X) × (slice_get xs i ≡ Some x)
  element_at [] i h = absurd (omega arith)
  element_at (x ∷ xs) zero h = (x, refl)
  element_at (x ∷ xs) (suc i) h = element_at xs i (omega arith)

  -- read by a number, which is one more, a list has its element at the index
  pub read_by_number : (xs : List X) (i : ℕ) (x d : X) → slice_get xs i ≡ Some x → get_or xs (suc i - 1) d ≡ x
  read_by_number xs i x d is = let before : suc i - 1 ≡ i = omega arith in rw before (get_or_from_slice_get xs i x d is)

  -- once an element is put at an index, what is read at an index is that element there, and else what it was
  read_after_set : (xs : List X) (i j : ℕ) (y z : X) → slice_get (set xs i y) j ≡ Some z →
      ((j ≡ i) × (z ≡ y)) ⊎ ((j ≢ i) × (slice_get xs j ≡ Some z))
  read_after_set [] i j y z is = absurd (none-some z is)
  read_after_set (x ∷ xs) zero zero y z is = inl (refl, sym (same_Some y z is))
  read_after_set (x ∷ xs) zero (suc j) y z is = inr ((λ e. omega (arith, e)), is)
  read_after_set (x ∷ xs) (suc i) zero y z is = inr ((λ e. omega (arith, e)), is)
  read_after_set (x ∷ xs) (suc i) (suc j) y z is =
      elim (read_after_set xs i j y z is) [
        | inl at ↦ inl (ap suc at.0, at.1)
        | inr off ↦ inr ((λ e. off.0 (omega (arith, e))), off.1)
      ]

  -- where there is something as wanted for each index below n, there is a list of such things
  pub choose : (n : ℕ) (d : X) (P : ℕ → X → Type 0) → ((i : ℕ) → i < n → (x : X) × P i x) →
      (xs : List X) × (length xs ≡ n) × ((i : ℕ) → i < n → P i (get_or xs i d))
  choose zero d P some = ([], refl, λ i below. absurd (omega arith))
  choose (suc n) d P some =
      let first = some zero (omega arith) in
      let rest = choose n d (λ i x. P (suc i) x) (λ i below. some (suc i) (omega arith)) in
      (first.0 ∷ rest.0, ap suc rest.1, at first.0 first.1 rest.0 rest.2)
    where
      -- the first is as wanted for index 0, and the rest for those after it
      at : (x : X) → P zero x → (xs : List X) → ((i : ℕ) → i < n → P (suc i) (get_or xs i d)) → (i : ℕ) → i < suc n → P i (get_or (x ∷ xs) i d)
      at x here xs later zero below = here
      at x here xs later (suc i) below = later i (omega arith)

module _ {X Y : Type 0} where
  -- an element of a mapped list is the image of the element at the same index
  pub read_of_map : (f : X → Y) (xs : List X) (i : ℕ) (y : Y) → slice_get (map f xs) i ≡ Some y → (x : X) × (slice_get xs i ≡ Some x) × (f x ≡ y)
  read_of_map f [] i y is = absurd (none-some y is)
  read_of_map f (x ∷ xs) zero y is = (x, refl, same_Some (f x) y is)
  read_of_map f (x ∷ xs) (suc i) y is = read_of_map f xs i y is

  -- once an element is put in place of another with the same image, the mapped list is the same
  pub same_map : (f : X → Y) (xs : List X) (i : ℕ) (old new : X) → slice_get xs i ≡ Some old → f new ≡ f old → map f (set xs i new) ≡ map f xs
  same_map f [] i old new is e = refl
  same_map f (x ∷ xs) zero old new is e = ap (λ (y : Y). y ∷ map f xs) (e ∙ ap f (sym (same_Some x old is)))
  same_map f (x ∷ xs) (suc i) old new is e = ap (λ (ys : List Y). f x ∷ ys) (same_map f xs i old new is e)

  -- what holds of the elements of two lists at each index holds place by place
  pub zip_by_index : (R : X → Y → Type 0) (xs : List X) (ys : List Y) → length xs ≡ length ys →
      ((i : ℕ) (x : X) (y : Y) → slice_get xs i ≡ Some x → slice_get ys i ≡ Some y → R x y) → AllZip R xs ys
  zip_by_index R [] [] same h = tt
  zip_by_index R [] (y ∷ ys) same h = absurd (omega arith)
  zip_by_index R (x ∷ xs) [] same h = absurd (omega arith)
  zip_by_index R (x ∷ xs) (y ∷ ys) same h =
      let rest : length xs ≡ length ys = omega arith in
      (h zero x y refl refl, zip_by_index R xs ys rest (λ i. h (suc i)))

-- there is a seat of each number from 1 to how many seats there are
pub seat_there : (seats : List SeatValue) (number : ℕ) → 1 ≤ number → number ≤ length seats → (value : SeatValue) × (seat_number seats number ≡ Some value)
seat_there seats zero from_1 up_to = absurd (omega arith)
seat_there seats (suc i) from_1 up_to = element_at seats i (omega arith)

-- a number of which there is a seat is from 1 to the number of seats
pub seat_within : (seats : List SeatValue) (number : ℕ) (value : SeatValue) → seat_number seats number ≡ Some value → (1 ≤ number) × (number ≤ length seats)
seat_within seats zero value is = absurd (none-some value is)
seat_within seats (suc i) value is = (omega arith, omega (arith, slice_get_within seats i value is))

-- the seat of a number is read one index before, since indexes count from 0 on
pub seat_read : (seats : List SeatValue) (number : ℕ) (value : SeatValue) → seat_number seats number ≡ Some value → slice_get seats (number - 1) ≡ Some value
seat_read seats zero value is = absurd (none-some value is)
seat_read seats (suc i) value is = let before : suc i - 1 ≡ i = omega arith in rw before is

-- once a seat of a number is another one, the seat of a number is that one there, and else what it was
pub seat_after_set : (seats : List SeatValue) (number other : ℕ) (new value : SeatValue) → 1 ≤ number →
    seat_number (set seats (number - 1) new) other ≡ Some value →
    ((other ≡ number) × (value ≡ new)) ⊎ ((other ≢ number) × (seat_number seats other ≡ Some value))
seat_after_set seats number zero new value from_1 is = absurd (none-some value is)
seat_after_set seats number (suc j) new value from_1 is =
    elim (read_after_set seats (number - 1) j new value is) [
      | inl at ↦ inl (omega (arith, at.0), at.1)
      | inr off ↦ inr ((λ e. off.0 (omega (arith, e))), off.1)
    ]

-- the seat of a number among mapped seats is the image of the seat of that number
pub seat_of_map : (f : SeatValue → SeatValue) (seats : List SeatValue) (number : ℕ) (value : SeatValue) → seat_number (map f seats) number ≡ Some value →
    (was : SeatValue) × (seat_number seats number ≡ Some was) × (f was ≡ value)
seat_of_map f seats zero value is = absurd (none-some value is)
seat_of_map f seats (suc i) value is = read_of_map f seats i value is
