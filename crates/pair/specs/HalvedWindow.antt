-- What windows are at first, and what a verdict leaves of one.
use Rattle.std.specs.Prelude.{◌≡◌, ℕ, ◌/◌}
use Rattle.pair.specs.Rows.{row_length}
use Rattle.pair.specs.Bisection.{half, moved}
use Rattle.pair.specs.declared.side.Side.{Side}
use Rattle.pair.specs.declared.side.Side.TheVariants.{A, B}
use Rattle.referees.specs.declared.verdict.PairVerdict.{PairVerdict}
use Rattle.pair.specs.declared.window.Window.{Window}

-- a window's offset in a side's row
abbrev pub offset_of : Side → Window → ℕ
offset_of A window = window.a
offset_of B window = window.b

-- the whole of both rows for a rank
pub record IsWhole (rank : ℕ) (window : Window) : Type 0 where
  pub rank_is : window.rank ≡ rank
  pub at_start : (side : Side) → offset_of side window ≡ 0
  pub all : window.size ≡ row_length rank

-- The offset of the side that the verdict moves grows by half the size, and half the size is left; a size of 1 stays.
pub record Halves (old : Window) (verdict : PairVerdict) (new : Window) : Type 0 where
  pub same_rank : new.rank ≡ old.rank
  pub offsets : (side : Side) → offset_of side new ≡ moved side verdict (old.size / 2) (offset_of side old)
  pub size_is : new.size ≡ half old.size
