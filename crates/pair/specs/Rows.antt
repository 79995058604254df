-- Rows: how a seat of a pair lays out its list, and how long a row is.
use Rattle.std.specs.Prelude.{ℕ, zero, suc, ◌+◌, ◌-◌, ◌^◌, min, cond, List, ◌++◌, map, length, take, replicate, nat_le, slice_index_or}
use Rattle.elements.specs.declared.entry.Entry.{Entry}
use Rattle.elements.specs.declared.entry.Entry.TheVariants.{Below, Element, Above}
use Rattle.referees.specs.declared.operand.EntryKind.{EntryKind}
use Rattle.referees.specs.declared.operand.EntryKind.TheVariants.{Below as BelowKind, Element as ElementKind, Above as AboveKind}
use Rattle.pair.specs.declared.side.Side.{Side}
use Rattle.pair.specs.declared.side.Side.TheVariants.{A, B}

-- the smallest j from i on with k at most 2 ^ j, or i + times where none of so many is
abbrev pub halvings_from : (times i k : ℕ) → ℕ
halvings_from zero i k = i
halvings_from (suc times) i k = let later = halvings_from times (suc i) k in cond (nat_le k (2 ^ i)) i later

-- how often a row for rank k is halved until one place is left: the smallest j with k at most 2 ^ j
abbrev pub halvings : ℕ → ℕ
halvings k = halvings_from k 0 k

-- how many entries a row for rank k has: the smallest power of two that is at least k
abbrev pub row_length : ℕ → ℕ
row_length k = 2 ^ halvings k

-- how many belows a side's row begins with: only A's has any
abbrev pub belows : Side → ℕ → ℕ
belows A k = row_length k - k
belows B k = 0

-- a row of n entries: so many belows, then the first k elements as far as there are any, then aboves
abbrev pub padded : {E : Type 0} → (n lows k : ℕ) → List E → List (Entry E)
padded n lows k xs = replicate lows Below ++ (map Element (take k xs) ++ replicate (n - lows - min k (length xs)) Above)

-- a side's row for rank k, of the list xs
abbrev pub row : {E : Type 0} → Side → ℕ → List E → List (Entry E)
row side k xs = padded (row_length k) (belows side k) k xs

-- the entry at a place of a row; places are counted from 1, and past the row's end stands above
abbrev pub entry_at : {E : Type 0} → List (Entry E) → ℕ → Entry E
entry_at entries place = slice_index_or entries (place - 1) Above

-- what an entry is, apart from which element it is
abbrev pub entry_kind : {E : Type 0} → Entry E → EntryKind
entry_kind Below = BelowKind
entry_kind (Element x) = ElementKind
entry_kind Above = AboveKind

-- the kind of the entry at a place of a row with so many belows, where the list has d elements
abbrev pub kind_among : (lows k d place : ℕ) → EntryKind
kind_among lows k d place = cond (nat_le place lows) BelowKind (cond (nat_le place (lows + min k d)) ElementKind AboveKind)

-- the kind that a side's row for rank k has at a place, for every list of d elements
abbrev pub kind_at : Side → (k d place : ℕ) → EntryKind
kind_at side k d place = kind_among (belows side k) k d place
