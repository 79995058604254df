-- A sheet's fault that is carried by `?` from layer to layer says what it said at first.
use Rattle.std.specs.Prelude.{◌≡◌, ℕ, Ok, Err, Result}
use Rattle.faults.specs.FaultInfos.{sheet_info, seat_info, run_info}
use Rattle.faults.specs.declared.fault.SheetFault.{SheetFault}
use Rattle.faults.specs.declared.fault.SeatFault.{SeatFault}
use Rattle.faults.specs.declared.fault.RunFault.{RunFault}

abbrev pub ToSeat : Result ℕ SheetFault → Result ℕ SeatFault → Type 0
ToSeat (Ok n) (Ok m) = m ≡ n
ToSeat (Ok n) (Err e) = ⊥
ToSeat (Err f) (Ok m) = ⊥
ToSeat (Err f) (Err e) = seat_info e ≡ sheet_info f

abbrev pub ToRun : Result ℕ SheetFault → Result ℕ RunFault → Type 0
ToRun (Ok n) (Ok m) = m ≡ n
ToRun (Ok n) (Err e) = ⊥
ToRun (Err f) (Ok m) = ⊥
ToRun (Err f) (Err e) = run_info e ≡ sheet_info f
