-- What a seat's call gives where it answers a report.
use Rattle.std.proofs.Common.{◌≡◌, Some, None, Ok, Option, Result}
use Rattle.faults.specs.declared.seat.Seat.{Seat as Whose}
use Rattle.faults.specs.declared.fault.SeatFault.{SeatFault}
use Rattle.faults.specs.declared.refusal.Refusal.{Refusal}
use Rattle.seats.specs.ListRefusals.{seat_answer}

-- a call that answers a report was not refused, so that the report is what it gives
pub report_given : {X : Type 0} (refusal : Option Refusal) (seat : Whose) (given report : X) →
    ◌≡◌ {A = Result X SeatFault} (Ok report) (seat_answer refusal seat given) → report ≡ given
report_given None seat given report e = cc
report_given (Some refusal) seat given report e = absurd cc
