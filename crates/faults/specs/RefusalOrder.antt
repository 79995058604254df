-- When a call is refused: conditions are looked at in rising order of their numbers, and the first that holds decides.
use Rattle.std.specs.Prelude.{Bool, true, false, List, [], ◌∷◌, Some, None, Ok, Err, Option, Result}
use Rattle.faults.specs.declared.fault.RunFault.{RunFault}
use Rattle.faults.specs.declared.fault.RunFault.TheVariants.{Own}
use Rattle.faults.specs.declared.refusal.Refusal.{Refusal}
use Rattle.faults.specs.declared.seat.Seat.{Seat as Whose}

-- a check: its refusal where its condition holds, none where it does not
abbrev pub check : (condition : Bool) → Refusal → Option Refusal
check true refusal = Some refusal
check false refusal = None

-- of checks, which stand in rising order of their numbers, the first that refuses decides
abbrev pub first_check : List (Option Refusal) → Option Refusal
first_check [] = None
first_check (None ∷ later) = first_check later
first_check (Some refusal ∷ later) = Some refusal

-- how a run's call answers: with the refusal, as the run's, for the seat that the call was given, or else with what it gives
abbrev pub answered : {X : Type 0} → Option Refusal → Option Whose → X → Result X RunFault
answered None seat given = Ok given
answered (Some refusal) seat given = Err (Own refusal seat)
