-- What a summary of a list says: how many elements the list has, and which are its lowest, median, 90th percentile and highest.
use Rattle.std.specs.Prelude.{◌≡◌, ℕ, Bool, List, length, Some, None, Ok, Err, Option, Result}
use Rattle.faults.specs.declared.fault.SheetFault.{SheetFault}
use Rattle.elements.specs.Ranks.{Ranked}
use Rattle.elements.specs.Percentiles.{median_rank, percentile_rank}
use Rattle.sheets.specs.Layouts.{Format}
use Rattle.sheets.specs.Refusals.{IsSheetRefusal, Acceptable}
use Rattle.sheets.specs.Readings.{Filled}
use Rattle.sheets.specs.declared.summary.AtRank.{AtRank}
use Rattle.sheets.specs.declared.summary.Highlights.{Highlights}
use Rattle.sheets.specs.declared.summary.Summary.{Summary}

module _ {E : Type 0} (before : E → E → Bool) (xs : List E) where
  -- the element named is the list's element of the rank named
  abbrev pub OfItsRank : AtRank E → Type 0
  OfItsRank a = Ranked before a.rank xs a.element

  pub record Highlighted (h : Highlights E) : Type 0 where
    pub lowest_rank : h.lowest.rank ≡ 1
    pub lowest : OfItsRank h.lowest
    pub median_rank : median_rank (length xs) ≡ Ok h.median.rank
    pub median : OfItsRank h.median
    pub ninetieth_rank : percentile_rank 90 (length xs) ≡ Ok h.ninetieth.rank
    pub ninetieth : OfItsRank h.ninetieth
    pub highest_rank : h.highest.rank ≡ length xs
    pub highest : OfItsRank h.highest

  -- an empty list has no elements to name, any other has
  abbrev pub HighlightsOf : Option (Highlights E) → Type 0
  HighlightsOf None = length xs ≡ 0
  HighlightsOf (Some h) = Highlighted h

  pub record Summarizes (s : Summary E) : Type 0 where
    pub count : s.count ≡ length xs
    pub highlights : HighlightsOf s.highlights

-- What checking a sheet answers, where it is read as a sheet of one type: a summary of the list that the sheet carries,
-- which then stands in the slice, or its refusal.
module _ {E : Type 0} (before : E → E → Bool) (f : Format E) (bytes : List ℕ) (was is : List E) where
  abbrev pub Checks : Result (Summary E) SheetFault → Type 0
  Checks (Ok s) = (xs : List E) × Acceptable before f bytes (length was) xs × Filled xs was is × Summarizes before xs s
  Checks (Err fault) = IsSheetRefusal before f bytes (length was) (Some fault.refusal) × (fault.seat ≡ None) × (is ≡ was)

-- every sheet that carries a list is answered by a summary of that list
abbrev pub AcceptsAll : {E : Type 0} → (E → E → Bool) → Format E → List ℕ → ℕ → Result (Summary E) SheetFault → Type 0
AcceptsAll {E} before f bytes room r = (xs : List E) → Acceptable before f bytes room xs → (s : Summary E) × (r ≡ Ok s) × Summarizes before xs s
