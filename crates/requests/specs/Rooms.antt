-- How long the slices of a request have to be: those for its lists, and the log.
use Rattle.std.specs.Prelude.{◌≡◌, ℕ, ◌-◌, ◌/◌, ◌≤◌, List, length, Err, IfOk, Result}
use Rattle.elements.specs.declared.delay.Delay.{Delay}
use Rattle.faults.specs.FaultInfos.{run_info}
use Rattle.faults.specs.declared.fault.RunFault.{RunFault}
use Rattle.faults.specs.declared.refusal.Refusal.TheVariants.{SliceTooShort}
use Rattle.runs.specs.Finishes.{Outcome}
use Rattle.requests.specs.RequestAnswers.{Memory}

-- a sheet in a request of so many bytes has at most so many delays, of 4 bytes each: ahead of them stand the 4 bytes of the rank and
-- the 6 of the sheet's header
abbrev pub most_delays : (bytes : ℕ) → ℕ
most_delays bytes = (bytes - 10) / 4

-- no slice was too short for its list
abbrev pub SlicesSuffice : Result (Outcome Delay) RunFault → Type 0
SlicesSuffice result = (fault : RunFault) → result ≡ Err fault → (run_info fault).refusal ≡ SliceTooShort → ⊥

-- with room for so many delays in both slices, none is too short
abbrev pub RoomSuffices : (bytes : List ℕ) → (before : Memory) → Result (Outcome Delay) RunFault → Type 0
RoomSuffices bytes before result =
    most_delays (length bytes) ≤ length before.a → most_delays (length bytes) ≤ length before.b → SlicesSuffice result

-- a log of such a length has room for every verdict that an accepted result counts, so all of them are noted
abbrev pub LogSuffices : (room : ℕ) → Result (Outcome Delay) RunFault → Type 0
LogSuffices room result = IfOk result (λ finished. finished.count ≤ room)
