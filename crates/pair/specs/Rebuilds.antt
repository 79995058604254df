-- Rebuilding: the verdicts that a seat writes alone, from its own row and x, the element of rank k. No call does this; it
-- says how little the verdicts say to a seat beside the result.
use Rattle.std.specs.Prelude.{ℕ, zero, suc, ◌+◌, ◌^◌, Bool, not, List, [], ◌∷◌}
use Rattle.elements.specs.Entries.{entry_before}
use Rattle.elements.specs.declared.entry.Entry.{Entry}
use Rattle.elements.specs.declared.entry.Entry.TheVariants.{Element}
use Rattle.referees.specs.Verdicts.{verdict_if}
use Rattle.referees.specs.declared.verdict.PairVerdict.{PairVerdict}
use Rattle.pair.specs.Rows.{halvings, row, entry_at}
use Rattle.pair.specs.Bisection.{moved}
use Rattle.pair.specs.declared.side.Side.{Side}
use Rattle.pair.specs.declared.side.Side.TheVariants.{A, B}

-- what a seat writes, by whether its entry at the place asked is before x: A writes 1 if it is, B writes 0 if it is
abbrev pub written : Side → Bool → PairVerdict
written A before_x = verdict_if before_x
written B before_x = verdict_if (not before_x)

module _ {E : Type 0} (before : E → E → Bool) (side : Side) where
  -- what a seat writes with a window of its own, from this offset and size 2 ^ j on, moved by what it writes
  abbrev pub rebuilt_from : List (Entry E) → E → (offset j : ℕ) → List PairVerdict
  rebuilt_from entries x offset zero = []
  rebuilt_from entries x offset (suc j) =
      let verdict = written side (entry_before before (entry_at entries (offset + 2 ^ j)) (Element x)) in
      verdict ∷ rebuilt_from entries x (moved side verdict (2 ^ j) offset) j

  -- what a seat writes from its list and x
  abbrev pub rebuilt : (k : ℕ) → List E → E → List PairVerdict
  rebuilt k xs x = rebuilt_from (row side k xs) x 0 (halvings k)
