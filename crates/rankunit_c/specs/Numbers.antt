-- The numbers of layers, seats and spots. Where there is no seat or no spot, its number is 0.
use Rattle.std.specs.Prelude.{ℕ, Some, None, Option, unwrap_or}
use Rattle.rankunit.specs.Faults.RefusalNumbers.{spot_of}
use Rattle.rankunit.specs.Faults.declared.fault_info.Layer.{Layer}
use Rattle.rankunit.specs.Faults.declared.fault_info.Layer.TheVariants.{Sheet, Seat, Run}
use Rattle.rankunit.specs.Faults.declared.refusal.Refusal.{Refusal}
use Rattle.rankunit.specs.Faults.declared.seat.Seat.{Seat as Whose}
use Rattle.rankunit.specs.Faults.declared.seat.Seat.TheVariants.{A, B, Numbered}

abbrev pub layer_number : Layer → ℕ
layer_number Sheet = 1
layer_number Seat = 2
layer_number Run = 3

abbrev pub seat_number : Option Whose → ℕ
seat_number None = 0
seat_number (Some A) = 1
seat_number (Some B) = 2
seat_number (Some (Numbered number)) = number

abbrev pub spot_number : Refusal → ℕ
spot_number refusal = unwrap_or (spot_of refusal) 0
