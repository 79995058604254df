-- What windows come to that are halved by one verdict after another.
use Rattle.std.specs.Prelude.{◌≡◌, ℕ, ◌-◌, ◌^◌, List, [], ◌∷◌, length}
use Rattle.pair.specs.Rows.{halvings}
use Rattle.pair.specs.Bisection.{offset_after}
use Rattle.pair.specs.declared.side.Side.{Side}
use Rattle.referees.specs.declared.verdict.PairVerdict.{PairVerdict}
use Rattle.pair.specs.HalvedWindow.{IsWhole, Halves, offset_of}
use Rattle.pair.specs.declared.window.Window.{Window}

-- one window is what verdicts, the first of them first, leave of another
pub data HalvedBy : Window → List PairVerdict → Window → Type 0 where
  by_none : {window : Window} → HalvedBy window [] window
  by_first : {old next new : Window} {verdict : PairVerdict} {later : List PairVerdict} →
      Halves old verdict next → HalvedBy next later new → HalvedBy old (verdict ∷ later) new

-- A window that was whole at first has, after verdicts, the offsets that the bisection gives it, and a size that each verdict
-- halved, down to 1.
pub record FollowsVerdicts (rank : ℕ) (verdicts : List PairVerdict) (window : Window) : Type 0 where
  pub offsets : (side : Side) → offset_of side window ≡ offset_after side 0 (halvings rank) verdicts
  pub size : window.size ≡ 2 ^ (halvings rank - length verdicts)

abbrev pub WindowsFollowVerdicts : Type 0
WindowsFollowVerdicts =
    (rank : ℕ) (whole window : Window) (verdicts : List PairVerdict) → IsWhole rank whole → HalvedBy whole verdicts window →
    FollowsVerdicts rank verdicts window
