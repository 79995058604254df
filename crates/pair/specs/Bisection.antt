-- Windows: which places of two rows are compared, and what comes of it. A window is given by its offset, the number of
-- places that it has left behind, and by its size, a power of two.
use Rattle.std.specs.Prelude.{ℕ, zero, suc, ◌+◌, ◌^◌, ◌/◌, max, Bool, true, false, cond, List, [], ◌∷◌, ◌++◌}
use Rattle.elements.specs.Entries.{lesser_entry}
use Rattle.elements.specs.declared.entry.Entry.{Entry}
use Rattle.referees.specs.Verdicts.{first_of}
use Rattle.referees.specs.declared.verdict.PairVerdict.{PairVerdict}
use Rattle.referees.specs.declared.verdict.PairVerdict.TheVariants.{Before, NotBefore}
use Rattle.pair.specs.Rows.{halvings, row, entry_at}
use Rattle.pair.specs.declared.side.Side.{Side}
use Rattle.pair.specs.declared.side.Side.TheVariants.{A, B}

-- half a window's size, but at least 1: the place asked is so far past the offset, and a verdict leaves a window of this size
abbrev pub half : ℕ → ℕ
half size = max 1 (size / 2)

-- the place that a window asks its seat for: the last of its lower half, and at size 1 the one place that is left
abbrev pub place_asked : (offset size : ℕ) → ℕ
place_asked offset size = offset + half size

-- whether a verdict moves a side's window up: 1 moves A's, 0 moves B's
abbrev pub moves : Side → PairVerdict → Bool
moves A Before = true
moves A NotBefore = false
moves B Before = false
moves B NotBefore = true

-- a side's offset after a verdict that halves its window to size h
abbrev pub moved : Side → PairVerdict → (h offset : ℕ) → ℕ
moved side verdict h offset = offset + cond (moves side verdict) h 0

-- what there is of each side, A's first
abbrev pub by_side : {X : Type 0} → X → X → Side → X
by_side a b A = a
by_side a b B = b

-- a number for each side, as the windows' offsets, or the places asked
abbrev pub OfSides : Type 0
OfSides = Side → ℕ

-- the verdicts from windows with these offsets and size 2 ^ j on, where a judge gives the verdict on the places asked
abbrev pub judged_verdicts : (OfSides → PairVerdict) → OfSides → ℕ → List PairVerdict
judged_verdicts judge offsets zero = []
judged_verdicts judge offsets (suc j) =
    let verdict = judge (λ side. offsets side + 2 ^ j) in
    verdict ∷ judged_verdicts judge (λ side. moved side verdict (2 ^ j) (offsets side)) j

-- a side's offset after verdicts, the first of them first, from a window with this offset and size 2 ^ j on
abbrev pub offset_after : Side → (offset j : ℕ) → List PairVerdict → ℕ
offset_after side offset j [] = offset
offset_after side offset zero (verdict ∷ later) = offset
offset_after side offset (suc j) (verdict ∷ later) = offset_after side (moved side verdict (2 ^ j) offset) j later

module _ {E : Type 0} (before : E → E → Bool) (k : ℕ) (lists : Side → List E) where
  -- what a referee says who is shown the entries at places of both rows
  abbrev pub compared : OfSides → PairVerdict
  compared places = first_of before (entry_at (row A k (lists A)) (places A)) (entry_at (row B k (lists B)) (places B))

  -- the verdicts of the bisection for rank k over two lists
  abbrev pub pair_verdicts : List PairVerdict
  pair_verdicts = judged_verdicts compared (λ side. 0) (halvings k)

  -- the entry that a side shows at the end: the one at the only place left in its window
  abbrev pub last_entry : Side → Entry E
  last_entry side = entry_at (row side k (lists side)) (offset_after side 0 (halvings k) pair_verdicts + 1)

  -- what the bisection ends with: the lesser of the two entries left
  abbrev pub pair_result : Entry E
  pair_result = lesser_entry before (last_entry A) (last_entry B)

-- the joint elements of a pair: those of both lists, repeats kept
abbrev pub joint_pair : {E : Type 0} → (Side → List E) → List E
joint_pair lists = lists A ++ lists B
