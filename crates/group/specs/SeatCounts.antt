-- What a seat counts at a target, and what a referee and whoever knows the result say of it.
use Rattle.std.specs.Prelude.{◌≡◌, ℕ, ◌≤◌, cond, List, map, length, nat_lt}
use Rattle.std.specs.List.{AllByRecursion as Each, sum_by}
use Rattle.elements.specs.Ranks.{count}
use Rattle.referees.specs.Verdicts.{weight_of}
use Rattle.referees.specs.declared.verdict.GroupVerdict.{GroupVerdict}
use Rattle.referees.specs.declared.verdict.GroupVerdict.TheVariants.{Lower, Higher, Done}
use Rattle.group.specs.declared.counts.Counts.{Counts}

-- how many of some places are below m, and how many above it
abbrev pub below : ℕ → List ℕ → ℕ
below m places = count (λ p. nat_lt p m) places

abbrev pub above : ℕ → List ℕ → ℕ
above m places = count (λ p. nat_lt m p) places

-- the true counts of some places at a target
abbrev pub HasCounts : ℕ → List ℕ → Counts → Type 0
HasCounts m places counts = (below m places ≡ counts.below) × (above m places ≡ counts.above)

module _ {E : Type 0} (place : E → ℕ) where
  -- every element of a list has its place from lo to hi
  abbrev pub Within : (lo hi : ℕ) → List E → Type 0
  Within lo hi xs = Each (λ x. (lo ≤ place x) × (place x ≤ hi)) xs

  -- what a referee says who weighs the true counts of lists, one a seat, at a target
  abbrev pub weighed : (k : ℕ) → List (List E) → ℕ → GroupVerdict
  weighed k lists m =
      weight_of (sum_by (λ xs. below m (map place xs)) lists) (sum_by (λ xs. above m (map place xs)) lists) k (sum_by length lists)

-- what whoever knows the place x of the result says of a target: lower, higher or done as x is below, above or at it
abbrev pub verdict_knowing : (x m : ℕ) → GroupVerdict
verdict_knowing x m = cond (nat_lt x m) Lower (cond (nat_lt m x) Higher Done)
