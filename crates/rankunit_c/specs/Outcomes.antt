-- What a request comes to, as numbers.
use Rattle.std.specs.Prelude.{◌≡◌, ℕ, ◌≤◌, List, length, take, Ok, Err, Result}
use Rattle.rankunit.specs.Elements.declared.delay.Delay.{Delay}
use Rattle.rankunit.specs.Faults.RefusalNumbers.{number_of}
use Rattle.rankunit.specs.Faults.FaultInfos.{run_info}
use Rattle.rankunit.specs.Faults.declared.fault.RunFault.{RunFault}
use Rattle.rankunit.specs.Faults.declared.fault_info.FaultInfo.{FaultInfo}
use Rattle.rankunit.specs.Referees.declared.verdict.PairVerdict.{PairVerdict}
use Rattle.rankunit.specs.Requests.RequestAnswers.{Answers}
use Rattle.rankunit.specs.Requests.Rooms.{RoomSuffices, LogSuffices}
use Rattle.rankunit.specs.Requests.declared.request.TheConstants.{MOST_VERDICTS}
use Rattle.rankunit.specs.Runs.Finishes.{Outcome as Found}
use Rattle.rankunit_c.specs.Numbers.{layer_number, seat_number, spot_number}
use Rattle.rankunit_c.specs.Verdicts.{bits, TellsEach}
use Rattle.rankunit_c.specs.declared.outcome.Outcome.{Outcome}

-- an element that was found, the number of verdicts, and the verdicts as a number
abbrev pub found : Found Delay → (verdicts : ℕ) → Outcome
found finished verdicts = record {
  refusal = 0;
  layer = 0;
  seat = 0;
  result = finished.result.micros;
  count = finished.count;
  verdicts = verdicts;
  spot = 0;
}

-- a refusal, with the layer that refused and the seat
abbrev pub refused : FaultInfo → Outcome
refused info = record {
  refusal = number_of info.refusal;
  layer = layer_number info.layer;
  seat = seat_number info.seat;
  result = 0;
  count = 0;
  verdicts = 0;
  spot = spot_number info.refusal;
}

-- what a request's answer comes to, with the log that its verdicts were noted in: the first noted are the counted ones
abbrev pub outcome_of : Result (Found Delay) RunFault → (log : List PairVerdict) → Outcome
outcome_of (Ok finished) log = found finished (bits (take finished.count log))
outcome_of (Err fault) log = refused (run_info fault)

-- no request comes to more verdicts
abbrev pub most_verdicts : ℕ
most_verdicts = MOST_VERDICTS

-- The request is answered over the memory for both lists and a log with a place for each verdict, and its answer is this outcome.
pub record AnswersRequest (bytes : List ℕ) (a a_after b b_after : List Delay) (outcome : Outcome) : Type 0 where
  pub log : List PairVerdict
  pub noted : List PairVerdict
  pub places : length noted ≡ most_verdicts
  pub came : Result (Found Delay) RunFault
  pub answers : Answers bytes (record { a = a; b = b; log = log }) (record { a = a_after; b = b_after; log = noted }) came
  pub room : RoomSuffices bytes (record { a = a; b = b; log = log }) came
  pub all_noted : LogSuffices most_verdicts came
  pub numbers : outcome ≡ outcome_of came noted
  pub few : outcome.count ≤ most_verdicts
  pub tells : TellsEach (take outcome.count noted) outcome.verdicts
