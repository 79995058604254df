-- A seat of a pair that uses its own call reports what the law calls honest, and is never refused.
use Rattle.std.proofs.Common.{◌≡◌, ◌∙◌, ℕ, Bool, List, ◌∷◌, Ok, Result}
use Rattle.elements.specs.declared.entry.Entry.{Entry}
use Rattle.faults.specs.declared.fault.RunFault.{RunFault}
use Rattle.pair.specs.Rows.{row, entry_at}
use Rattle.pair.specs.Sides.{seat_of}
use Rattle.pair.specs.Bisection.{OfSides}
use Rattle.pair.specs.declared.side.Side.{Side}
use Rattle.runs.specs.HistoryLaw.{Honest, InTurn}
use Rattle.runs.specs.Traces.{reported, verdicts}
use Rattle.runs.specs.declared.slip.Slip.{Slip}
use Rattle.pair.specs.PairCalls.{Reports, progress_of, with_progress}
use Rattle.pair.specs.Histories.{History, PairTrace, going, report}
use Rattle.pair.specs.declared.progress.Progress.{Progress}
use Rattle.pair.specs.declared.run.OfPair.{OfPair}
use Rattle.pair.specs.declared.run.StagedRun.{StagedRun}
use Rattle.pair.specs.PairHistoryLaw.{HistoriesKeepLaw, Shows}
use Rattle.pair.specs.PairProtocol.{honest, pair_protocol}
use Rattle.seats.specs.SeatReports.{PairReport, row_entry}
use Rattle.seats.specs.PairSeatHonesty.{PairSeatsAreHonest}
use Rattle.seats.proofs.GivenReports.{report_given}

module _ {T : Type 0} (before : T → T → Bool) (declared : OfSides) (rank : ℕ) (side : Side) (xs : List T) (entry : Entry T) where
  -- a window that is the one that the law says is reported to honestly
  shown_is_honest : (trace : PairTrace T) (stage : StagedRun T) → Shows rank (progress_of stage).window trace →
      PairReport before side (progress_of stage).window xs (Ok entry) → entry ≡ honest before declared rank side xs (verdicts trace)
  shown_is_honest trace stage shows by_list =
      let given = report_given by_list.0 (seat_of side) (row_entry side (progress_of stage).window xs) entry by_list.2 in
      given ∙ (λ i. entry_at (row side (shows.rank i) xs) (shows.places side i))

  -- an honest report in its turn is accepted, by the law of the history that it makes
  honest_accepted : (sample : T) (opened : StagedRun T × Slip OfPair T) → HistoriesKeepLaw before sample declared rank (Ok opened) →
      (trace : PairTrace T) (stage : StagedRun T) → History before sample opened.0 trace (going stage) →
      entry ≡ honest before declared rank side xs (verdicts trace) → (answer : Result (Unit {0}) RunFault) (left : Progress T) →
      Reports before side entry (progress_of stage) answer left → InTurn (pair_protocol before declared rank) side trace →
      Honest (pair_protocol before declared rank) side xs trace → answer ≡ Ok tt
  honest_accepted sample opened lawful trace stage history is_honest answer left reports turn seat =
      let next = report {stage = stage} side entry answer left history reports in
      let law = (lawful (reported side entry answer ∷ trace) (going (with_progress left stage)) next).0 in
      (law.events.0.in_turn turn).honest_accepted xs seat is_honest

-- so a seat's call answers the honest report, and the run accepts it
pub pair_seats_are_honest : {T : Type 0} (before : T → T → Bool) (sample : T) → PairSeatsAreHonest before sample
pair_seats_are_honest before sample declared rank opened lawful trace stage history side xs entry by_list =
    let shows = (lawful trace (going stage) history).1 in
    let is_honest = shown_is_honest before declared rank side xs entry trace stage shows by_list in
    record {
      is_honest = is_honest;
      is_accepted = honest_accepted before declared rank side xs entry sample opened lawful trace stage history is_honest;
    }
