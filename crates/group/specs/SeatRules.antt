-- What a group knows of one seat, what the seat may report, and the lists that explain what it reported.
use Rattle.std.specs.Prelude.{◌≡◌, ℕ, ◌+◌, ◌-◌, ◌≤◌, Bool, true, cond, ◌&&◌, List, [], ◌∷◌, map, length, ◌==◌, nat_le}
use Rattle.std.specs.List.{AllByRecursion as Each}
use Rattle.referees.specs.declared.verdict.GroupVerdict.{GroupVerdict}
use Rattle.referees.specs.declared.verdict.GroupVerdict.TheVariants.{Lower, Higher, Done}
use Rattle.group.specs.SeatCounts.{HasCounts, Within}
use Rattle.group.specs.Ranges.{target, from_after, to_after, LeavesPlace}
use Rattle.group.specs.declared.counts.Counts.{Counts}
use Rattle.group.specs.declared.count_bounds.CountBounds.{CountBounds}

-- before any round
abbrev pub first_bounds : (declared : ℕ) → CountBounds
first_bounds declared = record { declared = declared; low = 0; high = 0 }

-- Lower leaves the places below the target, so those not below it are above the new range; higher the other way round.
abbrev pub bounds_after : GroupVerdict → CountBounds → Counts → CountBounds
bounds_after Lower seat counts = record { declared = seat.declared; low = seat.low; high = seat.declared - counts.below }
bounds_after Higher seat counts = record { declared = seat.declared; low = seat.declared - counts.above; high = seat.high }
bounds_after Done seat counts = seat

-- The five rules for a seat's counts at the target. The last two are needed at the ends of the range: where the target is
-- a itself, the places below it are those below the range, and no others; and where it is b, likewise above.
pub record Possible (a b : ℕ) (seat : CountBounds) (counts : Counts) : Type 0 where
  pub room : counts.below + counts.above ≤ seat.declared
  pub low : seat.low ≤ counts.below
  pub high : seat.high ≤ counts.above
  pub edge_a : target a b ≡ a → counts.below ≡ seat.low
  pub edge_b : target a b ≡ b → counts.above ≡ seat.high

-- the test of the five rules
abbrev pub keeps_rules : (a b : ℕ) → CountBounds → Counts → Bool
keeps_rules a b seat counts =
    nat_le (counts.below + counts.above) seat.declared
    && (nat_le seat.low counts.below
    && (nat_le seat.high counts.above
    && (cond (target a b == a) (counts.below == seat.low) true
    && cond (target a b == b) (counts.above == seat.high) true)))

-- what one seat goes through in a round: its counts, and the verdict; lists of rounds have the first one first
pub data Round : Type 0 where
  round : Counts → GroupVerdict → Round

-- the seat's counts were possible in every round, from this range on
abbrev pub EachPossible : (a b : ℕ) → CountBounds → List Round → Type 0
EachPossible a b seat [] = Unit {0}
EachPossible a b seat (round counts verdict ∷ later) =
    Possible a b seat counts × EachPossible (from_after verdict a b) (to_after verdict a b) (bounds_after verdict seat counts) later

-- a verdict leaves a place in the range for the later rounds, and nothing comes after done
abbrev pub Leaves : GroupVerdict → (a b : ℕ) → List Round → Type 0
Leaves Lower a b later = LeavesPlace Lower a b
Leaves Higher a b later = LeavesPlace Higher a b
Leaves Done a b later = later ≡ []

-- no range on the way is empty, and done comes last
abbrev pub NeverEmpty : (a b : ℕ) → List Round → Type 0
NeverEmpty a b [] = a ≤ b
NeverEmpty a b (round counts verdict ∷ later) = (a ≤ b) × Leaves verdict a b later × NeverEmpty (from_after verdict a b) (to_after verdict a b) later

-- a target with the counts that were reported at it
pub record Report : Type 0 where
  pub target : ℕ
  pub counts : Counts

-- a seat's reports: its counts with the targets, which follow from the verdicts
abbrev pub reports : (a b : ℕ) → List Round → List Report
reports a b [] = []
reports a b (round counts verdict ∷ later) =
    record { target = target a b; counts = counts } ∷ reports (from_after verdict a b) (to_after verdict a b) later

-- a list explains reports: it has the declared length, its places are from lo to hi, and it has those counts at each target
pub record Explains {E : Type 0} (place : E → ℕ) (lo hi d : ℕ) (reported : List Report) (xs : List E) : Type 0 where
  pub declared : length xs ≡ d
  pub within : Within place lo hi xs
  pub shows : Each (λ r. HasCounts r.target (map place xs) r.counts) reported
