-- When a seat cannot report of its list.
use Rattle.std.specs.Prelude.{◌≡◌, ℕ, ◌-◌, ◌<◌, ◌≤◌, Bool, List, [], ◌∷◌, length, Some, None, Ok, Err, Option, Result, nat_lt, slice_index_or}
use Rattle.elements.specs.Orders.{IsFirstFall}
use Rattle.faults.specs.declared.seat.Seat.{Seat as Whose}
use Rattle.faults.specs.declared.fault.SeatFault.{SeatFault}
use Rattle.faults.specs.declared.fault.SeatFault.TheVariants.{Own}
use Rattle.faults.specs.declared.refusal.Refusal.{Refusal}
use Rattle.faults.specs.declared.refusal.Refusal.TheVariants.{OutOfOrder, ListTooLong, OutsideRange}
use Rattle.elements.specs.Limits.{longest_list}
use Rattle.elements.specs.SpotChecks.{check_spot}
use Rattle.faults.specs.RefusalOrder.{check, first_check}
use Rattle.group.specs.SeatCounts.{Within}

abbrev pub too_long : {T : Type 0} → List T → Bool
too_long xs = nat_lt longest_list (length xs)

-- an element whose place is not from lo to hi, by its number, where all before it are
pub record FirstOutside {T : Type 0} (place : T → ℕ) (lo hi : ℕ) (xs : List T) (number : ℕ) : Type 0 where
  pub from_1 : 1 ≤ number
  pub inside : number ≤ length xs
  pub outside : (d : T) → (lo ≤ place (slice_index_or xs (number - 1) d)) → (place (slice_index_or xs (number - 1) d) ≤ hi) → ⊥
  pub first : (i : ℕ) (d : T) → i < number - 1 → (lo ≤ place (slice_index_or xs i d)) × (place (slice_index_or xs i d) ≤ hi)

-- the number of the first element outside lo to hi, if there is one
abbrev pub IsOutside : {T : Type 0} → (T → ℕ) → (lo hi : ℕ) → List T → Option ℕ → Type 0
IsOutside place lo hi xs None = Within place lo hi xs
IsOutside place lo hi xs (Some number) = FirstOutside place lo hi xs number

-- A list in either protocol: 6 where it is out of order, then 9 where it is over 65,536.
abbrev pub IsListRefusal : {T : Type 0} → (T → T → Bool) → List T → Option Refusal → Type 0
IsListRefusal before xs refusal =
    (fall : Option ℕ) × IsFirstFall before xs fall
    × (refusal ≡ first_check (check_spot OutOfOrder fall ∷ check (too_long xs) ListTooLong ∷ []))

-- In a group, where neither holds, 12 where an element is outside lo to hi.
abbrev pub IsRangeRefusal : {T : Type 0} → (T → ℕ) → (lo hi : ℕ) → List T → (of_list : Option Refusal) → Option Refusal → Type 0
IsRangeRefusal place lo hi xs (Some first) refusal = refusal ≡ Some first
IsRangeRefusal place lo hi xs None refusal =
    (outside : Option ℕ) × IsOutside place lo hi xs outside × (refusal ≡ check_spot OutsideRange outside)

abbrev pub IsGroupRefusal : {T : Type 0} → (T → T → Bool) → (T → ℕ) → (lo hi : ℕ) → List T → Option Refusal → Type 0
IsGroupRefusal before place lo hi xs refusal =
    (of_list : Option Refusal) × IsListRefusal before xs of_list × IsRangeRefusal place lo hi xs of_list refusal

-- how a seat's call answers: with the refusal and the seat's name, or else with what it gives
abbrev pub seat_answer : {X : Type 0} → Option Refusal → Whose → X → Result X SeatFault
seat_answer None seat given = Ok given
seat_answer (Some refusal) seat given = Err (Own refusal (Some seat))
