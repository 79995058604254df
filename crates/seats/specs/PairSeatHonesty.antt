-- What a seat of a pair that uses its own call comes to.
use Rattle.std.specs.Prelude.{◌≡◌, ℕ, Bool, List, Ok, Result}
use Rattle.pair.specs.Bisection.{OfSides}
use Rattle.pair.specs.declared.side.Side.{Side}
use Rattle.elements.specs.declared.entry.Entry.{Entry}
use Rattle.faults.specs.declared.fault.RunFault.{RunFault}
use Rattle.pair.specs.PairHistoryLaw.{HistoriesKeepLaw}
use Rattle.pair.specs.PairProtocol.{honest, pair_protocol}
use Rattle.pair.specs.PairCalls.{Reports, progress_of}
use Rattle.pair.specs.Histories.{History, PairTrace, going}
use Rattle.pair.specs.declared.progress.Progress.{Progress}
use Rattle.pair.specs.declared.run.OfPair.{OfPair}
use Rattle.pair.specs.declared.run.StagedRun.{StagedRun}
use Rattle.runs.specs.HistoryLaw.{Honest, InTurn}
use Rattle.runs.specs.Traces.{verdicts}
use Rattle.runs.specs.declared.slip.Slip.{Slip}
use Rattle.seats.specs.SeatReports.{PairReport}

module _ {T : Type 0} (before : T → T → Bool) (sample : T) (declared : OfSides) (rank : ℕ) (trace : PairTrace T) (stage : StagedRun T) (side : Side) (xs : List T)
    (entry : Entry T) where
  -- where a history stands at a run, and the seat's call, shown that run, answers an entry: it is the list's honest report, and
  -- in its turn, after honest reports of that list, the run accepts it
  pub record SeatIsHonest : Type 0 where
    pub is_honest : entry ≡ honest before declared rank side xs (verdicts trace)
    pub is_accepted : (answer : Result (Unit {0}) RunFault) (left : Progress T) → Reports before side entry (progress_of stage) answer left →
        InTurn (pair_protocol before declared rank) side trace → Honest (pair_protocol before declared rank) side xs trace → answer ≡ Ok tt

abbrev pub PairSeatsAreHonest : {T : Type 0} → (T → T → Bool) → T → Type 0
PairSeatsAreHonest {T} before sample =
    (declared : OfSides) (rank : ℕ) (opened : StagedRun T × Slip OfPair T) → HistoriesKeepLaw before sample declared rank (Ok opened) →
    (trace : PairTrace T) (stage : StagedRun T) → History before sample opened.0 trace (going stage) →
    (side : Side) (xs : List T) (entry : Entry T) → PairReport before side (progress_of stage).window xs (Ok entry) →
    SeatIsHonest before sample declared rank trace stage side xs entry
