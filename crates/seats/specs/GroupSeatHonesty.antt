-- What a seat of a group that uses its own call comes to.
use Rattle.std.specs.Prelude.{◌≡◌, ℕ, Bool, List, Ok, Result}
use Rattle.faults.specs.declared.fault.RunFault.{RunFault}
use Rattle.group.specs.GroupHistoryLaw.{HistoriesKeepLaw}
use Rattle.group.specs.GroupProtocol.{group_protocol, honest}
use Rattle.group.specs.GroupCalls.{progress_of_run, limits_of, range_of, Reports}
use Rattle.group.specs.Histories.{History, GroupTrace, going}
use Rattle.group.specs.declared.run.OfGroup.{OfGroup}
use Rattle.group.specs.declared.run.Run.{Run}
use Rattle.group.specs.declared.run.StagedRun.TheVariants.{Comparing as StillComparing}
use Rattle.runs.specs.HistoryLaw.{Honest, InTurn}
use Rattle.runs.specs.Traces.{verdicts}
use Rattle.runs.specs.declared.slip.Slip.{Slip}
use Rattle.runs.specs.declared.stage.Comparing.{Comparing}
use Rattle.seats.specs.SeatReports.{GroupReport}
use Rattle.group.specs.declared.counts.Counts.{Counts}

module _ {T : Type 0} (before : T → T → Bool) (place : T → ℕ) (declared : List ℕ) (lo hi rank : ℕ) (trace : GroupTrace T) (run : Run T Comparing) (number : ℕ)
    (xs : List T) (counts : Counts) where
  -- where a history stands at a comparing run, and the seat's call, shown that run, answers counts: they are the list's honest
  -- report, and in its turn, after honest reports of that list, the run accepts them
  pub record SeatIsHonest : Type 0 where
    pub is_honest : counts ≡ honest before place declared lo hi rank number xs (verdicts trace)
    pub is_accepted : (answer : Result (Unit {0}) RunFault) (left : Run T Comparing) → Reports number counts (progress_of_run run) answer (progress_of_run left) →
        InTurn (group_protocol before place declared lo hi rank) number trace →
        Honest (group_protocol before place declared lo hi rank) number xs trace → answer ≡ Ok tt

abbrev pub GroupSeatsAreHonest : {T : Type 0} → (T → T → Bool) → T → (T → ℕ) → (lowest highest : ℕ) → Type 0
GroupSeatsAreHonest {T} before sample place lowest highest =
    (declared : List ℕ) (lo hi rank : ℕ) (opened : Run T Comparing × Slip OfGroup T) →
    HistoriesKeepLaw before sample place lowest highest declared lo hi rank (Ok opened) →
    (trace : GroupTrace T) (run : Run T Comparing) → History place lowest highest sample opened.0 trace (going (StillComparing run)) →
    (number : ℕ) (xs : List T) (counts : Counts) → GroupReport before place (limits_of (progress_of_run run)) (range_of (progress_of_run run)) number xs (Ok counts) →
    SeatIsHonest before place declared lo hi rank trace run number xs counts
