-- What the reader answers, and what it leaves in the slice.
use Rattle.std.specs.Prelude.{◌≡◌, ℕ, Bool, List, ◌++◌, length, drop, Some, None, Ok, Err, Option, Result}
use Rattle.faults.specs.declared.refusal.Refusal.{Refusal}
use Rattle.faults.specs.declared.seat.Seat.{Seat}
use Rattle.faults.specs.declared.fault.SheetFault.{SheetFault}
use Rattle.sheets.specs.Layouts.{Format}
use Rattle.sheets.specs.Refusals.{IsSheetRefusal, Acceptable}

-- the slice begins with the list, and is as it was after that
abbrev pub Filled : {E : Type 0} → List E → List E → List E → Type 0
Filled xs was is = is ≡ xs ++ drop (length xs) was

-- an answer for a seat: a refusal becomes a fault of that seat
abbrev pub with_seat : Option Seat → Result ℕ Refusal → Result ℕ SheetFault
with_seat seat (Ok n) = Ok n
with_seat seat (Err refusal) = Err (record { refusal = refusal; seat = seat })

module _ {E : Type 0} (before : E → E → Bool) (f : Format E) (bytes : List ℕ) (was is : List E) where
  -- the answer by itself: the length of a list, where nothing refuses the sheet, or else the refusal, and an untouched slice
  abbrev pub Reads : Result ℕ Refusal → Type 0
  Reads (Ok n) = IsSheetRefusal before f bytes (length was) None
      × ((xs : List E) × Acceptable before f bytes (length was) xs × (n ≡ length xs) × Filled xs was is)
  Reads (Err refusal) = IsSheetRefusal before f bytes (length was) (Some refusal) × (is ≡ was)

  -- the same where the refusal stands in a fault
  abbrev pub Answers : Option Seat → Result ℕ SheetFault → Type 0
  Answers seat (Ok n) = Reads (Ok n)
  Answers seat (Err fault) = Reads (Err fault.refusal) × (fault.seat ≡ seat)

  -- A sheet is accepted exactly if its bytes are the layout of some list that never falls, has at most 65,536
  -- elements and fits the slice; then that list, and no other, is what the slice begins with.
  pub record ReaderLaw (r : Result ℕ SheetFault) : Type 0 where
    pub only_layouts : (n : ℕ) → r ≡ Ok n → (xs : List E) × Acceptable before f bytes (length was) xs
    pub each_layout : (xs : List E) → Acceptable before f bytes (length was) xs → (r ≡ Ok (length xs)) × Filled xs was is
    pub no_other : (xs ys : List E) → Acceptable before f bytes (length was) xs → Acceptable before f bytes (length was) ys → xs ≡ ys
