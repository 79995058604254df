-- What a request comes to.
use Rattle.std.specs.Prelude.{◌≡◌, ℕ, ◌<◌, ◌≤◌, ◌⊎◌, List, length, take, Some, None, Ok, Err, Option, Result}
use Rattle.elements.specs.Delays.{delay_before}
use Rattle.elements.specs.declared.delay.Delay.{Delay}
use Rattle.faults.specs.declared.fault.RunFault.{RunFault}
use Rattle.faults.specs.declared.fault.RunFault.TheVariants.{OfSeat, Own}
use Rattle.faults.specs.declared.fault.SeatFault.{SeatFault}
use Rattle.faults.specs.declared.fault.SeatFault.TheVariants.{OfSheet}
use Rattle.faults.specs.declared.seat.Seat.{Seat as Whose}
use Rattle.faults.specs.declared.seat.Seat.TheVariants.{A, B}
use Rattle.faults.specs.declared.fault.SheetFault.{SheetFault}
use Rattle.faults.specs.declared.refusal.Refusal.{Refusal}
use Rattle.faults.specs.declared.refusal.Refusal.TheVariants.{RankOutOfBounds}
use Rattle.seats.specs.HonestRuns.{declared_lengths, Finds, noted}
use Rattle.pair.specs.Bisection.{by_side, pair_verdicts}
use Rattle.pair.specs.PairCalls.{opening_refusal}
use Rattle.referees.specs.declared.verdict.PairVerdict.{PairVerdict}
use Rattle.runs.specs.Finishes.{Outcome}
use Rattle.sheets.specs.Formats.{delay_format}
use Rattle.sheets.specs.Readings.{Answers as SheetAnswers}
use Rattle.requests.specs.RequestLayout.{rank_of, sheet_a, sheet_b}

-- a seat's sheet is read as delays, and a fault of it stands whole in the seat's
abbrev pub carried : Result ℕ SheetFault → Result ℕ SeatFault
carried (Ok count) = Ok count
carried (Err fault) = Err (OfSheet fault)

abbrev pub ReadsFor : Whose → List ℕ → (old new : List Delay) → Result ℕ SeatFault → Type 0
ReadsFor seat bytes old new result =
    (read : Result ℕ SheetFault) × SheetAnswers delay_before delay_format bytes old new (Some seat) read × (result ≡ carried read)

-- the memory that a caller lends: for A's list, for B's, and for the verdicts
pub record Memory : Type 0 where
  pub a : List Delay
  pub b : List Delay
  pub log : List PairVerdict

-- What a request comes to, from the memory before to that after. The first that cannot be read or opened decides: the rank, A's
-- sheet, B's sheet, the run. Else the result is the element of the rank of both lists. What was read before a refusal stays read:
-- A's list where B's sheet is refused, and both where the opening is.
module _ (bytes : List ℕ) (before after : Memory) (result : Result (Outcome Delay) RunFault) where
  -- both lists are at hand: the opening of a run is refused, and nothing is noted, or the element of the rank is found, and all of
  -- the protocol's verdicts are noted
  abbrev pub Found : (a b : List Delay) → (opening : Option Refusal) → Type 0
  Found a b (Some refusal) = (result ≡ Err (Own refusal None)) × (after.log ≡ before.log)
  Found a b None =
      (finished : Outcome Delay) × (result ≡ Ok finished) × Finds delay_before (by_side a b) (rank_of bytes) finished
      × (after.log ≡ noted (pair_verdicts delay_before (rank_of bytes) (by_side a b)) before.log)

  -- A's list is at hand, and B's sheet was read: it is refused, and the memory for B is as it was, or its list begins that memory
  abbrev pub ReadB : (a : List Delay) → Result ℕ SeatFault → Type 0
  ReadB a (Err fault) = (result ≡ Err (OfSeat fault)) × (after.log ≡ before.log)
  ReadB a (Ok count) =
      let b = take count after.b in Found a b (opening_refusal (declared_lengths (by_side a b)) (rank_of bytes))

  -- A's sheet was read: it is refused, all memory is as it was, and B's sheet is not looked at, or its list begins the memory for A
  abbrev pub ReadA : Result ℕ SeatFault → Type 0
  ReadA (Err fault) = (result ≡ Err (OfSeat fault)) × (after.b ≡ before.b) × (after.log ≡ before.log)
  ReadA (Ok count) = (read : Result ℕ SeatFault) × ReadsFor B (sheet_b bytes) before.b after.b read × ReadB (take count after.a) read

  abbrev pub Answers : Type 0
  Answers =
      ((length bytes < 4) × (result ≡ Err (Own RankOutOfBounds None)) × (after ≡ before))
      ⊎ ((4 ≤ length bytes) × ((read : Result ℕ SeatFault) × ReadsFor A (sheet_a bytes) before.a after.a read × ReadA read))
