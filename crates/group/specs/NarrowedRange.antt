-- Ranges as they are opened, and what a verdict leaves of one.
use Rattle.std.specs.Prelude.{◌≡◌, ℕ, ◌<◌, max, min, Some, None, Option}
use Rattle.referees.specs.declared.verdict.GroupVerdict.{GroupVerdict}
use Rattle.group.specs.Ranges.{from_after, to_after}
use Rattle.group.specs.declared.range.Range.{Range}

-- the range from lo to hi, or none where that is empty
abbrev pub IsOver : (lo hi : ℕ) → Option Range → Type 0
IsOver lo hi (Some range) = (range.from ≡ lo) × (range.to ≡ hi)
IsOver lo hi None = hi < lo

-- what a verdict leaves, where an end that would pass the other stays at it
pub record Narrows (old : Range) (verdict : GroupVerdict) (new : Range) : Type 0 where
  pub from_is : new.from ≡ min old.to (from_after verdict old.from old.to)
  pub to_is : new.to ≡ max old.from (to_after verdict old.from old.to)

-- the new ends are those that the verdict sets
pub record Follows (old : Range) (verdict : GroupVerdict) (new : Range) : Type 0 where
  pub from_is : new.from ≡ from_after verdict old.from old.to
  pub to_is : new.to ≡ to_after verdict old.from old.to
