-- The range of places that a group still looks at, from a to b, and what a verdict leaves of it.
use Rattle.std.specs.Prelude.{ℕ, ◌+◌, ◌-◌, ◌/◌, ◌<◌}
use Rattle.referees.specs.declared.verdict.GroupVerdict.{GroupVerdict}
use Rattle.referees.specs.declared.verdict.GroupVerdict.TheVariants.{Lower, Higher, Done}

-- the target, the place that a round asks about: the middle of the range, rounded up
abbrev pub target : (a b : ℕ) → ℕ
target a b = (a + b + 1) / 2

-- lower leaves the places below the target, higher those above it, done all
abbrev pub from_after : GroupVerdict → (a b : ℕ) → ℕ
from_after Lower a b = a
from_after Higher a b = target a b + 1
from_after Done a b = a

abbrev pub to_after : GroupVerdict → (a b : ℕ) → ℕ
to_after Lower a b = target a b - 1
to_after Higher a b = b
to_after Done a b = b

-- a verdict leaves a place in the range
abbrev pub LeavesPlace : GroupVerdict → (a b : ℕ) → Type 0
LeavesPlace Lower a b = a < target a b
LeavesPlace Higher a b = target a b < b
LeavesPlace Done a b = Unit {0}
