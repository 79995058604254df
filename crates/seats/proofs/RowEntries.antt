-- The entry of a row at a place, by the kind that the place has.
use Rattle.std.proofs.Common.{◌≡◌, ℕ, ◌-◌, ◌≤◌, List, length, get_or, sym, ◌∙◌, inl, inr, arith}
use Rattle.elements.specs.declared.entry.Entry.TheVariants.{Below, Element, Above}
use Rattle.referees.specs.declared.operand.EntryKind.TheVariants.{Below as BelowKind, Element as ElementKind, Above as AboveKind}
use Rattle.pair.specs.Rows.{belows, row, row_length, entry_at, kind_at}
use Rattle.pair.specs.declared.side.Side.{Side}
use Rattle.pair.proofs.Rows.{row_below, row_element, row_above, kind_cases}

-- kinds that differ
pub below_is_no_element : BelowKind ≡ ElementKind → ⊥
below_is_no_element e = let z : ◌≡◌ {A = ℕ} 0 1 = cc in omega arith

pub below_is_no_above : BelowKind ≡ AboveKind → ⊥
below_is_no_above e = let z : ◌≡◌ {A = ℕ} 0 1 = cc in omega arith

pub element_is_no_above : ElementKind ≡ AboveKind → ⊥
element_is_no_above e = let z : ◌≡◌ {A = ℕ} 0 1 = cc in omega arith

module _ {E : Type 0} (side : Side) (k : ℕ) (xs : List E) (place : ℕ) (from_1 : 1 ≤ place) where
  -- a place whose kind is below has a below
  pub below_there : kind_at side k (length xs) place ≡ BelowKind → entry_at (row side k xs) place ≡ Below
  below_there e =
      elim (kind_cases (belows side k) k (length xs) place) [
        | inl s ↦ row_below (row_length k) (belows side k) k xs place from_1 s.0
        | inr t ↦ elim t [
          | inl s ↦ absurd (below_is_no_element (sym e ∙ s.2))
          | inr s ↦ absurd (below_is_no_above (sym e ∙ s.1))
        ]
      ]

  -- one whose kind is element has the element at its index past the belows
  pub element_there : kind_at side k (length xs) place ≡ ElementKind → (d : E) →
      entry_at (row side k xs) place ≡ Element (get_or xs (place - belows side k - 1) d)
  element_there e d =
      elim (kind_cases (belows side k) k (length xs) place) [
        | inl s ↦ absurd (below_is_no_element (sym s.1 ∙ e))
        | inr t ↦ elim t [
          | inl s ↦ row_element (row_length k) (belows side k) k xs place (place - belows side k - 1) d (omega (arith, s.0)) (omega (arith, s.0, s.1)) (omega (arith, s.0, s.1))
          | inr s ↦ absurd (element_is_no_above (sym e ∙ s.1))
        ]
      ]

  -- and one whose kind is above has an above
  pub above_there : kind_at side k (length xs) place ≡ AboveKind → entry_at (row side k xs) place ≡ Above
  above_there e =
      elim (kind_cases (belows side k) k (length xs) place) [
        | inl s ↦ absurd (below_is_no_above (sym s.1 ∙ e))
        | inr t ↦ elim t [
          | inl s ↦ absurd (element_is_no_above (sym s.2 ∙ e))
          | inr s ↦ row_above (row_length k) (belows side k) k xs place (place - belows side k - 1) (omega (arith, s.0)) (omega (arith, s.0))
        ]
      ]
