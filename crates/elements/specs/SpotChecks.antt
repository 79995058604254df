-- A check that finds an element: its refusal has the element's number.
use Rattle.std.specs.Prelude.{ℕ, Some, None, Option}
use Rattle.faults.specs.declared.refusal.Refusal.{Refusal}

-- the refusal with the number of the element that was found; none where none was
abbrev pub check_spot : (ℕ → Refusal) → (found : Option ℕ) → Option Refusal
check_spot refusal None = None
check_spot refusal (Some number) = Some (refusal number)
