-- What a seat reports of its list.
use Rattle.std.specs.Prelude.{◌≡◌, ℕ, Bool, List, map, Option, Result}
use Rattle.elements.specs.declared.entry.Entry.{Entry}
use Rattle.faults.specs.declared.seat.Seat.TheVariants.{Numbered}
use Rattle.faults.specs.declared.fault.SeatFault.{SeatFault}
use Rattle.faults.specs.declared.refusal.Refusal.{Refusal}
use Rattle.pair.specs.Rows.{row, entry_at}
use Rattle.pair.specs.Sides.{seat_of}
use Rattle.pair.specs.Bisection.{place_asked}
use Rattle.pair.specs.declared.side.Side.{Side}
use Rattle.pair.specs.HalvedWindow.{offset_of}
use Rattle.pair.specs.declared.window.Window.{Window}
use Rattle.group.specs.SeatCounts.{below, above}
use Rattle.group.specs.Ranges.{target}
use Rattle.group.specs.declared.counts.Counts.{Counts}
use Rattle.group.specs.declared.range.Range.{Range}
use Rattle.seats.specs.ListRefusals.{IsListRefusal, IsGroupRefusal, seat_answer}

-- the entry of a list's row at the place that a window asks a side for
abbrev pub row_entry : {T : Type 0} → Side → Window → List T → Entry T
row_entry side window xs = entry_at (row side window.rank xs) (place_asked (offset_of side window) window.size)

-- a seat of a pair reports its row's entry at the place asked, unless its list is refused
abbrev pub PairReport : {T : Type 0} → (T → T → Bool) → Side → Window → List T → Result (Entry T) SeatFault → Type 0
PairReport before side window xs result =
    (refusal : Option Refusal) × IsListRefusal before xs refusal × (result ≡ seat_answer refusal (seat_of side) (row_entry side window xs))

-- how many places of a list are below the target of a range, and how many above
abbrev pub counts_at : {T : Type 0} → (T → ℕ) → Range → List T → Counts
counts_at place range xs = record {
  below = below (target range.from range.to) (map place xs);
  above = above (target range.from range.to) (map place xs);
}

-- a seat of a group reports its counts at the target, unless its list is refused
abbrev pub GroupReport : {T : Type 0} → (T → T → Bool) → (T → ℕ) → (limits range : Range) → (number : ℕ) → List T → Result Counts SeatFault → Type 0
GroupReport before place limits range number xs result =
    (refusal : Option Refusal) × IsGroupRefusal before place limits.from limits.to xs refusal
    × (result ≡ seat_answer refusal (Numbered number) (counts_at place range xs))
