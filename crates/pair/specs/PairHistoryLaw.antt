-- What every history of the run of a pair keeps.
use Rattle.std.specs.Prelude.{◌≡◌, ℕ, Bool, reverse, Ok, Err, Result}
use Rattle.faults.specs.declared.fault.RunFault.{RunFault}
use Rattle.pair.specs.Bisection.{OfSides, place_asked}
use Rattle.pair.specs.declared.side.Side.{Side}
use Rattle.runs.specs.HistoryLaw.{HistoryLaw}
use Rattle.runs.specs.Learning.{TellsTheSame}
use Rattle.runs.specs.Traces.{verdicts}
use Rattle.runs.specs.declared.slip.Slip.{Slip}
use Rattle.pair.specs.HalvedWindow.{offset_of}
use Rattle.pair.specs.declared.window.Window.{Window}
use Rattle.pair.specs.PairCalls.{Opens, progress_of}
use Rattle.pair.specs.WindowLaws.{FollowsVerdicts}
use Rattle.pair.specs.Histories.{History, Now, going, over, PairTrace}
use Rattle.pair.specs.declared.run.OfPair.{OfPair}
use Rattle.pair.specs.declared.run.StagedRun.{StagedRun}
use Rattle.pair.specs.PairProtocol.{place_after, pair_protocol}

-- The window that a run shows, in either stage, is the one to which the verdicts of its trace lead: that of the rank, with the
-- offsets and the size that the bisection has after them. So a side is asked for the place that the law says.
pub record Shows {T : Type 0} (k : ℕ) (window : Window) (trace : PairTrace T) : Type 0 where
  pub rank : window.rank ≡ k
  pub follows : FollowsVerdicts k (reverse (verdicts trace)) window
  pub places : (side : Side) → place_asked (offset_of side window) window.size ≡ place_after k side (verdicts trace)

abbrev pub ShowsNow : {T : Type 0} → ℕ → Now T → PairTrace T → Type 0
ShowsNow k (going stage) trace = Shows k (progress_of stage).window trace
ShowsNow k over trace = Unit {0}

-- every history of the run that an accepted opening hands out keeps the history law
abbrev pub HistoriesKeepLaw : {T : Type 0} → (T → T → Bool) → T → OfSides → (rank : ℕ) → Result (StagedRun T × Slip OfPair T) RunFault → Type 0
HistoriesKeepLaw {T} before sample declared rank (Ok opened) =
    (trace : PairTrace T) (now : Now T) → History before sample opened.0 trace now →
    HistoryLaw (pair_protocol before declared rank) trace × ShowsNow rank now trace
HistoriesKeepLaw before sample declared rank (Err fault) = Unit {0}

-- What a seat learns: take any other run opened with the same lengths and for the same rank, and any history of each. A seat
-- with the same list in both, where the element of the rank is the same and no two joint elements are equal in either, was told
-- the same verdicts by as many steps, however the other's list differs.
abbrev pub HistoriesTellTheSame : {T : Type 0} → (T → T → Bool) → T → OfSides → (rank : ℕ) → Result (StagedRun T × Slip OfPair T) RunFault → Type 0
HistoriesTellTheSame {T} before sample declared rank (Ok opened) =
    (another : StagedRun T × Slip OfPair T) → Opens declared rank (Ok another) →
    (one other : PairTrace T) (now then : Now T) → History before sample opened.0 one now → History before sample another.0 other then →
    TellsTheSame (pair_protocol before declared rank) one other
HistoriesTellTheSame before sample declared rank (Err fault) = Unit {0}
