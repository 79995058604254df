-- What each verdict of a bisection keeps: the last entry that a window left behind is not after the last one in the other window.
use Rattle.std.proofs.Common.{◌≡◌, ℕ, zero, suc, ◌+◌, ◌^◌, ◌<◌, ◌≤◌, Bool, true, false, cond, List, [], ◌∷◌, refl, not-suc-le-zero, add-zero, arith, pow_pos}
use Rattle.elements.specs.Orders.{IsOrder}
use Rattle.elements.specs.Entries.{entry_before}
use Rattle.elements.specs.declared.entry.Entry.{Entry}
use Rattle.elements.proofs.OrderFacts.{asymmetric}
use Rattle.referees.specs.Verdicts.{verdict_if}
use Rattle.referees.specs.declared.verdict.PairVerdict.{PairVerdict}
use Rattle.pair.specs.Rows.{halvings, row_length, row, entry_at}
use Rattle.pair.specs.Bisection.{OfSides, moves, moved, judged_verdicts, offset_after, compared, pair_verdicts}
use Rattle.pair.specs.declared.side.Side.{Side}
use Rattle.pair.specs.declared.side.Side.TheVariants.{A, B}
use Rattle.pair.proofs.Orders.{entry_order}

-- the other side
abbrev pub other : Side → Side
other A = B
other B = A

-- the other side's other side is the side itself
pub other-other : (side : Side) → other (other side) ≡ side
other-other A = refl
other-other B = refl

-- what holds of a side and of the other holds of both
pub both_sides : (P : Side → Type 0) (side : Side) → P side → P (other side) → (s : Side) → P s
both_sides P A p q A = p
both_sides P A p q B = q
both_sides P B p q A = q
both_sides P B p q B = p

-- the offset that any verdicts lead to lies within the window
pub within_window : (side : Side) (offset j : ℕ) (later : List PairVerdict) →
    (offset ≤ offset_after side offset j later) × (offset_after side offset j later < offset + 2 ^ j)
within_window side offset j [] = omega (arith, pow_pos j)
within_window side offset zero (verdict ∷ later) = omega arith
within_window side offset (suc j) (verdict ∷ later) =
    let next = moved side verdict (2 ^ j) offset in
    wider (moves side verdict) (offset_after side next j later) (within_window side next j later)
  where
    wider : (up : Bool) (last : ℕ) → (offset + cond up (2 ^ j) 0 ≤ last) × (last < offset + cond up (2 ^ j) 0 + 2 ^ j) →
        (offset ≤ last) × (last < offset + 2 ^ suc j)
    wider true last h = omega arith
    wider false last h = omega arith

-- Windows of size 2 ^ j, one in each of two rows: the entries behind them and those in one of them are n together, and the
-- last entry behind either is not after the last one in the other.
pub record Held {E : Type 0} (before : E → E → Bool) (rows : Side → List (Entry E)) (n : ℕ) (offsets : OfSides) (j : ℕ) : Type 0 where
  pub sum : offsets A + offsets B + 2 ^ j ≡ n
  pub not_after : (side : Side) → 0 < offsets side →
      entry_before before (entry_at (rows (other side)) (offsets (other side) + 2 ^ j)) (entry_at (rows side) (offsets side)) ≡ false

module _ {E : Type 0} {before : E → E → Bool} (o : IsOrder before) (rows : Side → List (Entry E)) (n : ℕ) where
  -- a verdict on the places asked keeps both facts
  held_after : (offsets : OfSides) (j : ℕ) (a_first : Bool) →
      entry_before before (entry_at (rows A) (offsets A + 2 ^ j)) (entry_at (rows B) (offsets B + 2 ^ j)) ≡ a_first →
      Held before rows n offsets (suc j) → Held before rows n (λ side. moved side (verdict_if a_first) (2 ^ j) (offsets side)) j
  held_after offsets j true e h = record { sum = omega (arith, h.sum); not_after = still_not_after }
    where
      still_not_after : (side : Side) → 0 < moved side (verdict_if true) (2 ^ j) (offsets side) →
          entry_before before (entry_at (rows (other side)) (moved (other side) (verdict_if true) (2 ^ j) (offsets (other side)) + 2 ^ j))
          (entry_at (rows side) (moved side (verdict_if true) (2 ^ j) (offsets side))) ≡ false
      still_not_after A s =
          let asked = λ (side : Side). entry_at (rows side) (offsets side + 2 ^ j) in
          rw (add-zero (offsets B)) (asymmetric (entry_order o) (asked A) (asked B) e)
      still_not_after B s =
          let w : offsets A + 2 ^ suc j ≡ offsets A + 2 ^ j + 2 ^ j = omega arith in
          rw (add-zero (offsets B), ← w) (h.not_after B (omega arith))
  held_after offsets j false e h = record { sum = omega (arith, h.sum); not_after = still_not_after }
    where
      still_not_after : (side : Side) → 0 < moved side (verdict_if false) (2 ^ j) (offsets side) →
          entry_before before (entry_at (rows (other side)) (moved (other side) (verdict_if false) (2 ^ j) (offsets (other side)) + 2 ^ j))
          (entry_at (rows side) (moved side (verdict_if false) (2 ^ j) (offsets side))) ≡ false
      still_not_after A s =
          let w : offsets B + 2 ^ suc j ≡ offsets B + 2 ^ j + 2 ^ j = omega arith in
          rw (add-zero (offsets A), ← w) (h.not_after A (omega arith))
      still_not_after B s = rw (add-zero (offsets A)) e

module _ {E : Type 0} {before : E → E → Bool} (o : IsOrder before) (k : ℕ) (lists : Side → List E) where
  -- what holds of any windows of a bisection holds of those at size 1
  held_until : (offsets : OfSides) (j : ℕ) → Held before (λ side. row side k (lists side)) (row_length k) offsets j →
      Held before (λ side. row side k (lists side)) (row_length k)
      (λ side. offset_after side (offsets side) j (judged_verdicts (compared before k lists) offsets j)) 0
  held_until offsets zero h = h
  held_until offsets (suc j) h =
      let rows = λ (side : Side). row side k (lists side) in
      let a_first = entry_before before (entry_at (rows A) (offsets A + 2 ^ j)) (entry_at (rows B) (offsets B + 2 ^ j)) in
      held_until (λ side. moved side (verdict_if a_first) (2 ^ j) (offsets side)) j (held_after o rows (row_length k) offsets j a_first refl h)

  -- it holds of the windows that the bisection for rank k ends with
  pub held_at_end : Held before (λ side. row side k (lists side)) (row_length k)
      (λ side. offset_after side 0 (halvings k) (pair_verdicts before k lists)) 0
  held_at_end =
      held_until (λ side. 0) (halvings k) (record { sum = omega arith; not_after = λ side s. absurd (not-suc-le-zero s) })
