-- Slices with room for as many delays as a request can hold are never too short.
use Rattle.std.proofs.Common.{◌≡◌, ℕ, ◌-◌, ◌/◌, ◌<◌, ◌≤◌, Bool, true, false, List, [], ◌∷◌, length, drop, Some, None, Ok, Err, Option, Result, inl, inr, refl, ap, ◌∙◌, arith}
use Rattle.std.proofs.lemmas.List.{length-drop, length-take}
use Rattle.std.proofs.lemmas.Bool.{ltb-true}
use Rattle.elements.specs.Delays.{delay_before}
use Rattle.elements.specs.SpotChecks.{check_spot}
use Rattle.elements.specs.declared.delay.Delay.{Delay}
use Rattle.faults.specs.FaultInfos.{run_info, seat_info}
use Rattle.faults.specs.RefusalOrder.{check, first_check}
use Rattle.faults.specs.declared.fault.RunFault.{RunFault}
use Rattle.faults.specs.declared.fault.SeatFault.{SeatFault}
use Rattle.faults.specs.declared.refusal.Refusal.{Refusal}
use Rattle.faults.specs.declared.refusal.Refusal.TheVariants.{SheetTooShort, VersionUnknown, CountDiffers, KindNotWanted, BodyNotAList, OutOfOrder, SliceTooShort, ListTooLong, RankOutOfBounds}
use Rattle.faults.specs.declared.seat.Seat.{Seat as Whose}
use Rattle.faults.specs.declared.seat.Seat.TheVariants as Seats
use Rattle.pair.specs.Bisection.{by_side}
use Rattle.pair.specs.PairCalls.{opening_refusal}
use Rattle.runs.specs.Finishes.{Outcome}
use Rattle.seats.specs.HonestRuns.{declared_lengths}
use Rattle.sheets.specs.Formats.{delay_format}
use Rattle.sheets.specs.Headers.{body_of}
use Rattle.sheets.specs.Layouts.{elements_in}
use Rattle.sheets.specs.Refusals.{IsSheetRefusal}
use Rattle.requests.specs.RequestAnswers.{Memory, ReadsFor, Found, ReadA, ReadB, Answers}
use Rattle.requests.specs.RequestLayout.{rank_of, sheet_a, sheet_b, stated_end}
use Rattle.requests.specs.Rooms.{most_delays, RoomSuffices}

-- of a sheet's checks only the last refuses for the slice
for_slice : (a b c d e short : Bool) (fall : Option ℕ) →
    Some SliceTooShort ≡ first_check (check a SheetTooShort ∷ check b VersionUnknown ∷ check c CountDiffers ∷ check d KindNotWanted ∷ check e BodyNotAList
    ∷ check_spot OutOfOrder fall ∷ check short SliceTooShort ∷ []) → short ≡ true
for_slice true b c d e short fall is = absurd cc
for_slice false true c d e short fall is = absurd cc
for_slice false false true d e short fall is = absurd cc
for_slice false false false true e short fall is = absurd cc
for_slice false false false false true short fall is = absurd cc
for_slice false false false false false short (Some number) is = absurd cc
for_slice false false false false false false None is = absurd cc
for_slice false false false false false true None is = refl

-- so a sheet of delays that is refused so has more of them than there is room for
too_many : (sheet : List ℕ) (room : ℕ) → IsSheetRefusal delay_before delay_format sheet room (Some SliceTooShort) →
    room < elements_in delay_format (body_of sheet)
too_many sheet room (fall, falls, is) = ltb-true room (elements_in delay_format (body_of sheet)) (for_slice _ _ _ _ _ _ fall is)

-- and that cannot be where there is room for a fourth of what follows the header
reads_unshort : (seat : Whose) (sheet : List ℕ) (old new : List Delay) (fault : SeatFault) → ReadsFor seat sheet old new (Err fault) →
    (length sheet - 6) / 4 ≤ length old → (seat_info fault).refusal ≡ SliceTooShort → ⊥
reads_unshort seat sheet old new fault (Ok count, read, is) room short = absurd cc
reads_unshort seat sheet old new fault (Err sheet_fault, read, is) room short =
    let same : sheet_fault.refusal ≡ SliceTooShort = cc in
    let many = too_many sheet (length old) (rw same at read.0.0) in
    omega (arith, many, room, length-drop 6 sheet)

-- no opening is refused so
opening_unshort : (a b : Bool) → first_check (check a ListTooLong ∷ check b RankOutOfBounds ∷ []) ≡ Some SliceTooShort → ⊥
opening_unshort true b is = cc
opening_unshort false true is = cc
opening_unshort false false is = cc

-- either sheet is shorter than the request by the rank at least
a_within : (bytes : List ℕ) → length (sheet_a bytes) ≤ length bytes - 4
a_within bytes = omega (arith, length-take (stated_end (drop 4 bytes)) (drop 4 bytes), length-drop 4 bytes)

b_within : (bytes : List ℕ) → length (sheet_b bytes) ≤ length bytes - 4
b_within bytes = omega (arith, length-drop (stated_end (drop 4 bytes)) (drop 4 bytes), length-drop 4 bytes)

module _ (bytes : List ℕ) (before after : Memory) (result : Result (Outcome Delay) RunFault) (fault : RunFault) (fails : result ≡ Err fault)
    (short : (run_info fault).refusal ≡ SliceTooShort) where
  found_unshort : (a b : List Delay) (opening : Option Refusal) → opening_refusal (declared_lengths (by_side a b)) (rank_of bytes) ≡ opening →
      Found bytes before after result a b opening → ⊥
  found_unshort a b (Some refusal) is found =
      let same : refusal ≡ SliceTooShort = let e = found.0 in cc in
      opening_unshort _ _ (is ∙ ap Some same)
  found_unshort a b None is found = let e = found.1 in absurd cc

  b_unshort : (a : List Delay) → most_delays (length bytes) ≤ length before.b → (read : Result ℕ SeatFault) →
      ReadsFor Seats.B (sheet_b bytes) before.b after.b read → ReadB bytes before after result a read → ⊥
  b_unshort a room (Err of_b) reads comes =
      let e = comes.0 in
      reads_unshort Seats.B (sheet_b bytes) before.b after.b of_b reads (omega (arith, room, b_within bytes)) (cc)
  b_unshort a room (Ok count) reads comes = found_unshort a _ _ refl comes

  a_unshort : most_delays (length bytes) ≤ length before.a → most_delays (length bytes) ≤ length before.b → (read : Result ℕ SeatFault) →
      ReadsFor Seats.A (sheet_a bytes) before.a after.a read → ReadA bytes before after result read → ⊥
  a_unshort room_a room_b (Err of_a) reads comes =
      let e = comes.0 in
      reads_unshort Seats.A (sheet_a bytes) before.a after.a of_a reads (omega (arith, room_a, a_within bytes)) (cc)
  a_unshort room_a room_b (Ok count) reads comes = b_unshort _ room_b comes.0 comes.1 comes.2

pub room_suffices : (bytes : List ℕ) (before after : Memory) (result : Result (Outcome Delay) RunFault) → Answers bytes before after result →
    RoomSuffices bytes before result
room_suffices bytes before after result (inl none) room_a room_b fault fails short = let e = none.1 in absurd cc
room_suffices bytes before after result (inr some) room_a room_b fault fails short =
    a_unshort bytes before after result fault fails short room_a room_b some.1.0 some.1.1 some.1.2
