-- What a round of honest seats of a group comes to, in the calls' own terms.
use Rattle.std.specs.Prelude.{◌≡◌, ℕ, ◌+◌, Bool, List, [], ◌∷◌, Ok, Err, Result}
use Rattle.rankunit.specs.Faults.declared.fault.RunFault.{RunFault}
use Rattle.rankunit.specs.Faults.declared.fault.RunFault.TheVariants.{OfSeat}
use Rattle.rankunit.specs.Faults.declared.fault.SeatFault.{SeatFault}
use Rattle.rankunit.specs.Group.GroupCalls.{Stepped, Reports, Steps, progress_of_run, limits_of, range_of}
use Rattle.rankunit.specs.Group.declared.counts.Counts.{Counts}
use Rattle.rankunit.specs.Group.declared.run.Run.{Run}
use Rattle.rankunit.specs.Runs.declared.stage.Comparing.{Comparing}
use Rattle.rankunit.specs.Seats.SeatReports.{GroupReport}

module _ {T : Type 0} (before : T → T → Bool) (place : T → ℕ) where
  -- a seat's call that is refused is answered, and nothing is reported; else the run answers the report of the counts
  abbrev pub Given : Result Counts SeatFault → (number : ℕ) → Run T Comparing → Result (Unit {0}) RunFault → Run T Comparing → Type 0
  Given (Ok counts) number old answer new = Reports number counts (progress_of_run old) answer (progress_of_run new)
  Given (Err fault) number old answer new = (answer ≡ Err (OfSeat fault)) × (new ≡ old)

  -- a seat reports of its list at the target that it is asked for
  abbrev pub ReportsOne : (number : ℕ) → List T → Run T Comparing → Result (Unit {0}) RunFault → Run T Comparing → Type 0
  ReportsOne number xs old answer new =
      (call : Result Counts SeatFault) × GroupReport before place (limits_of (progress_of_run old)) (range_of (progress_of_run old)) number xs call
      × Given call number old answer new

  -- once a report is accepted, the later ones follow
  abbrev pub OnceAccepted : (earlier : Result (Unit {0}) RunFault) → (Later : Result (Unit {0}) RunFault → Type 0) → Run T Comparing →
      Result (Unit {0}) RunFault → Run T Comparing → Type 0
  OnceAccepted (Ok u) Later old answer new = Later answer
  OnceAccepted (Err fault) Later old answer new = (answer ≡ Err fault) × (new ≡ old)

  -- the seats of lists report in turn, numbered from a number on
  abbrev pub ReportsFrom : (number : ℕ) → List (List T) → Run T Comparing → Result (Unit {0}) RunFault → Run T Comparing → Type 0
  ReportsFrom number [] old answer new = (answer ≡ Ok tt) × (new ≡ old)
  ReportsFrom number (xs ∷ later) old answer new =
      (between : Run T Comparing) × (first : Result (Unit {0}) RunFault) × ReportsOne number xs old first between
      × OnceAccepted first (λ last. ReportsFrom (number + 1) later between last new) between answer new

  -- once all reports are accepted, the run steps
  abbrev pub StepsBy : (reported : Result (Unit {0}) RunFault) → Run T Comparing → (stock : ℕ) → Stepped T → Type 0
  StepsBy (Ok u) run stock result = Steps run stock result
  StepsBy (Err fault) run stock result = result ≡ Err (record { fault = fault; given = run })

  -- a round
  abbrev pub PlaysRound : List (List T) → Run T Comparing → (stock : ℕ) → Stepped T → Type 0
  PlaysRound lists run stock result =
      (left : Run T Comparing) × (reported : Result (Unit {0}) RunFault) × ReportsFrom 1 lists run reported left × StepsBy reported left stock result
