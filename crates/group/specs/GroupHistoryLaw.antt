-- What every history of the run of a group keeps, and what it tells a seat.
use Rattle.std.specs.Prelude.{◌≡◌, ℕ, Bool, List, Ok, Err, Result}
use Rattle.faults.specs.declared.fault.RunFault.{RunFault}
use Rattle.runs.specs.HistoryLaw.{HistoryLaw}
use Rattle.runs.specs.Learning.{TellsTheSame}
use Rattle.runs.specs.Traces.{verdicts}
use Rattle.runs.specs.declared.slip.Slip.{Slip}
use Rattle.group.specs.GroupCalls.{Opens, progress_of, limits_of, range_of}
use Rattle.group.specs.Ranges.{target}
use Rattle.group.specs.Histories.{History, Now, going, over, GroupTrace}
use Rattle.group.specs.declared.progress.Progress.{Progress}
use Rattle.group.specs.declared.range.Range.{Range}
use Rattle.runs.specs.declared.stage.Comparing.{Comparing}
use Rattle.group.specs.declared.run.OfGroup.{OfGroup}
use Rattle.group.specs.declared.run.Run.{Run}
use Rattle.group.specs.GroupProtocol.{Left, left_after, target_after, group_protocol}

-- the ends of a range
abbrev pub ends_of : Range → Left
ends_of range = record { a = range.from; b = range.to }

-- A run shows, as its limits, the range that it was opened with, and the range to which the verdicts of its trace lead, whose
-- target is what the law says that a seat is asked for.
pub record Shows {T : Type 0} (lo hi : ℕ) (progress : Progress) (trace : GroupTrace T) : Type 0 where
  pub limits_are : ends_of (limits_of progress) ≡ record { a = lo; b = hi }
  pub range_is : ends_of (range_of progress) ≡ left_after lo hi (verdicts trace)
  pub target_is : target (range_of progress).from (range_of progress).to ≡ target_after lo hi (verdicts trace)

-- so it does in either stage
abbrev pub ShowsNow : {T : Type 0} → (lo hi : ℕ) → Now T → GroupTrace T → Type 0
ShowsNow lo hi (going stage) trace = Shows lo hi (progress_of stage) trace
ShowsNow lo hi over trace = Unit {0}

-- every history of the run that an accepted opening hands out keeps the history law
abbrev pub HistoriesKeepLaw : {T : Type 0} → (T → T → Bool) → (sample : T) → (place : T → ℕ) → (lowest highest : ℕ) → List ℕ → (lo hi rank : ℕ) →
    Result (Run T Comparing × Slip OfGroup T) RunFault → Type 0
HistoriesKeepLaw {T} before sample place lowest highest declared lo hi rank (Ok opened) =
    (trace : GroupTrace T) (now : Now T) → History place lowest highest sample opened.0 trace now →
    HistoryLaw (group_protocol before place declared lo hi rank) trace × ShowsNow lo hi now trace
HistoriesKeepLaw before sample place lowest highest declared lo hi rank (Err fault) = Unit {0}

-- Of two runs opened alike, whatever became of them, a seat that has the same list in both, with the same element of the rank
-- asked for, is told the same verdicts by as many steps: what it is told it could have written down by itself.
abbrev pub HistoriesTellTheSame : {T : Type 0} → (T → T → Bool) → (sample : T) → (place : T → ℕ) → (lowest highest : ℕ) → List ℕ →
    (lo hi rank : ℕ) → Result (Run T Comparing × Slip OfGroup T) RunFault → Type 0
HistoriesTellTheSame {T} before sample place lowest highest declared lo hi rank (Ok opened) =
    (other : Run T Comparing × Slip OfGroup T) → Opens lowest highest declared lo hi rank (Ok other) →
    (trace other_trace : GroupTrace T) (now other_now : Now T) →
    History place lowest highest sample opened.0 trace now → History place lowest highest sample other.0 other_trace other_now →
    TellsTheSame (group_protocol before place declared lo hi rank) trace other_trace
HistoriesTellTheSame before sample place lowest highest declared lo hi rank (Err fault) = Unit {0}
