-- The bounds that a seat's earlier reports leave its next one, and the test of a new report against them.
use Rattle.std.specs.Prelude.{◌≡◌, ℕ, ◌+◌, ◌<◌, ◌≤◌, Bool, true, false, cond, not, ◌&&◌, ◌⊎◌, List, [], ◌∷◌, ◌==◌, nat_lt}
use Rattle.std.specs.List.{AllByRecursion as Each}
use Rattle.elements.specs.Entries.{entry_before}
use Rattle.elements.specs.declared.entry.Entry.{Entry}
use Rattle.elements.specs.declared.entry.Entry.TheVariants.{Below, Above}
use Rattle.referees.specs.declared.operand.EntryKind.{EntryKind}
use Rattle.referees.specs.declared.operand.EntryKind.TheVariants.{Below as BelowKind, Element as ElementKind, Above as AboveKind}
use Rattle.referees.specs.declared.verdict.PairVerdict.{PairVerdict}
use Rattle.pair.specs.PairReports.{Report}
use Rattle.pair.specs.Rows.{row_length, entry_kind, kind_at}
use Rattle.pair.specs.Bisection.{moves, place_asked}
use Rattle.pair.specs.declared.bounds.Bounds.{Bounds}
use Rattle.pair.specs.declared.side.Side.{Side}

-- whether two kinds are the same
abbrev pub same_kind : EntryKind → EntryKind → Bool
same_kind BelowKind BelowKind = true
same_kind BelowKind ElementKind = false
same_kind BelowKind AboveKind = false
same_kind ElementKind BelowKind = false
same_kind ElementKind ElementKind = true
same_kind ElementKind AboveKind = false
same_kind AboveKind BelowKind = false
same_kind AboveKind ElementKind = false
same_kind AboveKind AboveKind = true

-- the place asked was reported before: at size 1 it is the window's end, unless that is the row's end
abbrev pub asked_again : (n offset size : ℕ) → Bool
asked_again n offset size = (size == 1) && nat_lt (offset + 1) n

module _ {E : Type 0} where
  -- among the reports, entry e stands at a place
  abbrev pub ReportedAt : (place : ℕ) → Entry E → List (Report E) → Type 0
  ReportedAt place e [] = ⊥
  ReportedAt place e (r ∷ earlier) = ((r.place ≡ place) × (r.entry ≡ e)) ⊎ ReportedAt place e earlier

  -- These are the bounds of a window in a row of n entries. No place inside it was reported, and none past its end unless
  -- the end was; low is the entry reported at its offset and high the one at its end, or marks at the ends of the row.
  pub record Bound (n offset size : ℕ) (bounds : Bounds E) (reports : List (Report E)) : Type 0 where
    pub outside : Each (λ r. (r.place ≤ offset) ⊎ ((offset + size ≤ r.place) × (offset + size < n))) reports
    pub low_reported : 0 < offset → ReportedAt offset bounds.low reports
    pub low_mark : offset ≡ 0 → bounds.low ≡ Below
    pub high_reported : offset + size < n → ReportedAt (offset + size) bounds.high reports
    pub high_mark : offset + size ≡ n → bounds.high ≡ Above

  -- before any report
  abbrev pub widest : Bounds E
  widest = record { low = Below; high = Above }

  -- after a verdict on entry e: what moves the window up makes it the low one, and else it is the high one
  abbrev pub bounds_after : Side → PairVerdict → Entry E → Bounds E → Bounds E
  bounds_after side verdict e bounds =
      cond (moves side verdict) (record { low = e; high = bounds.high }) (record { low = bounds.low; high = e })

  -- The test of entry e at the place that a side's window asks for: the kind of the place, not before the low bound, not
  -- after the high one, and where the place was reported before also not before the high one, which stands there.
  abbrev pub passes : (E → E → Bool) → Side → (k d offset size : ℕ) → Bounds E → Entry E → Bool
  passes before side k d offset size bounds e =
      same_kind (entry_kind e) (kind_at side k d (place_asked offset size))
      && (not (entry_before before e bounds.low)
      && (not (entry_before before bounds.high e)
      && not (asked_again (row_length k) offset size && entry_before before e bounds.high)))
