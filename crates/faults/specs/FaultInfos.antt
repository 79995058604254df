-- What a fault of each layer says: the refusal, the layer that refused, and the seat.
use Rattle.std.specs.Prelude.{◌≡◌, Option}
use Rattle.faults.specs.declared.refusal.Refusal.{Refusal}
use Rattle.faults.specs.declared.seat.Seat.{Seat as Whose}
use Rattle.faults.specs.declared.fault_info.Layer.{Layer}
use Rattle.faults.specs.declared.fault_info.Layer.TheVariants.{Sheet, Seat, Run}
use Rattle.faults.specs.declared.fault.SheetFault.{SheetFault}
use Rattle.faults.specs.declared.fault.SeatFault.{SeatFault}
use Rattle.faults.specs.declared.fault.SeatFault.TheVariants.{OfSheet, Own}
use Rattle.faults.specs.declared.fault.RunFault.{RunFault}
use Rattle.faults.specs.declared.fault.RunFault.TheVariants.{OfSeat, Own as OwnRun}
use Rattle.faults.specs.declared.fault_info.FaultInfo.{FaultInfo}
use Rattle.faults.specs.declared.fault_info.Notice.{Notice}
use Rattle.faults.specs.RefusalNumbers.{number_of, spot_of}

abbrev pub info_of : Refusal → Layer → Option Whose → FaultInfo
info_of refusal layer seat = record { refusal = refusal; layer = layer; seat = seat }

-- what that is outside: the refusal by its number and its spot, with layer and seat
abbrev pub notice_of : FaultInfo → Notice
notice_of info = record { number = number_of info.refusal; layer = info.layer; seat = info.seat; spot = spot_of info.refusal }

abbrev pub sheet_info : SheetFault → FaultInfo
sheet_info f = info_of f.refusal Sheet f.seat

abbrev pub seat_info : SeatFault → FaultInfo
seat_info (OfSheet f) = sheet_info f
seat_info (Own refusal seat) = info_of refusal Seat seat

abbrev pub run_info : RunFault → FaultInfo
run_info (OfSeat f) = seat_info f
run_info (OwnRun refusal seat) = info_of refusal Run seat

-- a converted fault holds the whole fault, and so has the same refusal, layer and seat
pub record SeatKeepsSheet (e : SheetFault) (r : SeatFault) : Type 0 where
  pub whole : r ≡ OfSheet e
  pub same : seat_info r ≡ sheet_info e

pub record RunKeepsSeat (e : SeatFault) (r : RunFault) : Type 0 where
  pub whole : r ≡ OfSeat e
  pub same : run_info r ≡ seat_info e
