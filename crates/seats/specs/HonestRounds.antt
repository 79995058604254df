-- What a round of honest seats comes to, in the calls' own terms.
use Rattle.std.specs.Prelude.{◌≡◌, ℕ, Bool, List, Some, None, Ok, Err, Option, Result}
use Rattle.elements.specs.declared.entry.Entry.{Entry}
use Rattle.faults.specs.declared.fault.RunFault.{RunFault}
use Rattle.faults.specs.declared.fault.RunFault.TheVariants.{OfSeat}
use Rattle.faults.specs.declared.fault.SeatFault.TheVariants.{Own}
use Rattle.faults.specs.declared.refusal.Refusal.{Refusal}
use Rattle.pair.specs.Sides.{seat_of}
use Rattle.pair.specs.declared.side.Side.{Side}
use Rattle.pair.specs.declared.side.Side.TheVariants.{A, B}
use Rattle.runs.specs.declared.slip.Slip.{Slip}
use Rattle.pair.specs.PairCalls.{Stepped, Ending, Reports, Steps, Finishes, progress_of_run, run_at}
use Rattle.pair.specs.declared.progress.Progress.{Progress}
use Rattle.runs.specs.declared.stage.Closing.{Closing}
use Rattle.runs.specs.declared.stage.Comparing.{Comparing}
use Rattle.pair.specs.declared.run.OfPair.{OfPair}
use Rattle.pair.specs.declared.run.Run.{Run}
use Rattle.seats.specs.ListRefusals.{IsListRefusal}
use Rattle.seats.specs.SeatReports.{row_entry}

module _ {T : Type 0} (before : T → T → Bool) where
  -- a seat whose list is refused answers the refusal, and nothing is reported; else the run answers the report of an entry
  abbrev pub ReportsBy : (of_list : Option Refusal) → Side → Entry T → Progress T → Result (Unit {0}) RunFault → Progress T → Type 0
  ReportsBy (Some refusal) side entry old answer new = (answer ≡ Err (OfSeat (Own refusal (Some (seat_of side))))) × (new ≡ old)
  ReportsBy None side entry old answer new = Reports before side entry old answer new

  -- a seat reports the entry that it is asked for of its list's row
  abbrev pub ReportsOne : Side → List T → Progress T → Result (Unit {0}) RunFault → Progress T → Type 0
  ReportsOne side xs old answer new =
      (of_list : Option Refusal) × IsListRefusal before xs of_list × ReportsBy of_list side (row_entry side old.window xs) old answer new

  -- once an earlier report is accepted, a seat reports as well
  abbrev pub ReportsAfter : Side → List T → Progress T → (earlier answer : Result (Unit {0}) RunFault) → Progress T → Type 0
  ReportsAfter side xs old (Ok u) answer new = ReportsOne side xs old answer new
  ReportsAfter side xs old (Err fault) answer new = (answer ≡ Err fault) × (new ≡ old)

  -- both seats report, A first
  abbrev pub ReportsBoth : (Side → List T) → Progress T → Result (Unit {0}) RunFault → Progress T → Type 0
  ReportsBoth lists old answer new =
      (between : Progress T) × (of_a : Result (Unit {0}) RunFault) × ReportsOne A (lists A) old of_a between
      × ReportsAfter B (lists B) between of_a answer new

  -- once both reports are accepted, the run steps
  abbrev pub StepsBy : (reported : Result (Unit {0}) RunFault) → Run T Comparing → (stock : ℕ) → Stepped T → Type 0
  StepsBy (Ok u) run stock result = Steps before run stock result
  StepsBy (Err fault) run stock result = result ≡ Err (record { fault = fault; given = run })

  -- a round of a comparing run
  abbrev pub Compares : (Side → List T) → Run T Comparing → (stock : ℕ) → Stepped T → Type 0
  Compares lists run stock result =
      (progress : Progress T) × (reported : Result (Unit {0}) RunFault) × ReportsBoth lists (progress_of_run run) reported progress
      × StepsBy reported (run_at progress (record {})) stock result

  -- once both reports are accepted, the run finishes
  abbrev pub FinishesBy : (reported : Result (Unit {0}) RunFault) → (sample : T) → Run T Closing → Slip OfPair T → (stock : ℕ) →
      Ending T → Type 0
  FinishesBy (Ok u) sample run slip stock result = Finishes before sample run slip stock result
  FinishesBy (Err fault) sample run slip stock result = result ≡ Err (record { fault = fault; given = (run, slip) })

  -- the last round, of a closing run
  abbrev pub Closes : (sample : T) → (Side → List T) → Run T Closing → Slip OfPair T → (stock : ℕ) → Ending T → Type 0
  Closes sample lists run slip stock result =
      (progress : Progress T) × (reported : Result (Unit {0}) RunFault) × ReportsBoth lists (progress_of_run run) reported progress
      × FinishesBy reported sample (run_at progress (record {})) slip stock result
