-- What a seat reports, and the lists that explain it.
use Rattle.std.specs.Prelude.{◌≡◌, ℕ, ◌<◌, ◌≤◌, Bool, false, List, length}
use Rattle.std.specs.List.{AllByRecursion as Each}
use Rattle.elements.specs.Entries.{entry_before}
use Rattle.elements.specs.Orders.{NeverFalls}
use Rattle.elements.specs.declared.entry.Entry.{Entry}
use Rattle.pair.specs.Rows.{row, entry_at, entry_kind, kind_at}
use Rattle.pair.specs.declared.side.Side.{Side}

-- a place, counted from 1, and the entry reported at it; lists of reports have the newest first
pub record Report (E : Type 0) : Type 0 where
  pub place : ℕ
  pub entry : Entry E

-- of the earlier reports, one at the nearest lower place, and one at the nearest higher place
abbrev pub NearestLower : {E : Type 0} → List (Report E) → (place : ℕ) → Report E → Type 0
NearestLower earlier place s = (s.place < place) × Each (λ t. t.place < place → t.place ≤ s.place) earlier

abbrev pub NearestHigher : {E : Type 0} → List (Report E) → (place : ℕ) → Report E → Type 0
NearestHigher earlier place s = (place < s.place) × Each (λ t. place < t.place → s.place ≤ t.place) earlier

module _ {E : Type 0} (before : E → E → Bool) (side : Side) (k d : ℕ) where
  -- a list explains a side's reports: it has the declared length d, never falls, and its row has the reported entries at
  -- their places
  pub record Explains (reports : List (Report E)) (xs : List E) : Type 0 where
    pub declared : length xs ≡ d
    pub in_order : NeverFalls before xs
    pub shows : Each (λ r. entry_at (row side k xs) r.place ≡ r.entry) reports

  -- reports that do not contradict each other: each has the kind of its place, none is before one at a lower place, and
  -- those at one place are the same
  pub record Consistent (reports : List (Report E)) : Type 0 where
    pub from_1 : Each (λ r. 1 ≤ r.place) reports
    pub kinds : Each (λ r. entry_kind r.entry ≡ kind_at side k d r.place) reports
    pub rise : Each (λ r. Each (λ s. r.place < s.place → entry_before before s.entry r.entry ≡ false) reports) reports
    pub same : Each (λ r. Each (λ s. r.place ≡ s.place → r.entry ≡ s.entry) reports) reports

  -- the three rules for a new report r: it has the kind of its place; it is neither before the entry at the nearest lower
  -- place nor after the one at the nearest higher; and at a place reported earlier it is the same entry
  pub record KeepsRules (earlier : List (Report E)) (r : Report E) : Type 0 where
    pub kind : entry_kind r.entry ≡ kind_at side k d r.place
    pub not_before_lower : Each (λ s. NearestLower earlier r.place s → entry_before before r.entry s.entry ≡ false) earlier
    pub not_after_higher : Each (λ s. NearestHigher earlier r.place s → entry_before before s.entry r.entry ≡ false) earlier
    pub same_again : Each (λ s. s.place ≡ r.place → s.entry ≡ r.entry) earlier
