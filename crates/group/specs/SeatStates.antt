-- The state of a seat before any round and after a verdict.
use Rattle.std.specs.Prelude.{◌≡◌, ℕ, zero, suc, ◌<◌, ◌≤◌, List, [], ◌∷◌, Some, None, Option}
use Rattle.elements.specs.Limits.{longest_list}
use Rattle.group.specs.declared.seat_state.SeatState.{SeatState}
use Rattle.referees.specs.declared.verdict.GroupVerdict.{GroupVerdict}
use Rattle.group.specs.SeatRules.{bounds_after, first_bounds}
use Rattle.group.specs.declared.counts.Counts.{Counts}
use Rattle.group.specs.declared.count_bounds.CountBounds.{CountBounds}

-- before any round; none for a length over 65,536
abbrev pub IsNewSeat : ℕ → Option SeatState → Type 0
IsNewSeat declared (Some seat) = (declared ≤ longest_list) × (seat.known ≡ first_bounds declared) × (seat.given ≡ None)
IsNewSeat declared None = longest_list < declared

-- what is known after a verdict, from what the seat gave if it did
abbrev pub bounds_next : GroupVerdict → CountBounds → Option Counts → CountBounds
bounds_next verdict known None = known
bounds_next verdict known (Some counts) = bounds_after verdict known counts

-- after a verdict: what is known then, and nothing given yet
abbrev pub IsAfter : GroupVerdict → SeatState → SeatState → Type 0
IsAfter verdict old new = (new.known ≡ bounds_next verdict old.known old.given) × (new.given ≡ None)

-- the first n states are after a verdict, and the others stay
abbrev pub AreAfter : GroupVerdict → ℕ → List SeatState → List SeatState → Type 0
AreAfter verdict zero old new = new ≡ old
AreAfter verdict (suc n) [] new = new ≡ []
AreAfter verdict (suc n) (was ∷ old) [] = ⊥
AreAfter verdict (suc n) (was ∷ old) (seat ∷ new) = IsAfter verdict was seat × AreAfter verdict n old new
