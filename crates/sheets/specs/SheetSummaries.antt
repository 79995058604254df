-- What checking a sheet of either kind answers.
use Rattle.std.specs.Prelude.{◌≡◌, ℕ, List, length, Ok, Err, Result}
use Rattle.faults.specs.declared.fault.SheetFault.{SheetFault}
use Rattle.elements.specs.Delays.{delay_before}
use Rattle.elements.specs.LinkLevels.{level_before}
use Rattle.elements.specs.declared.delay.Delay.{Delay}
use Rattle.elements.specs.declared.link_level.LinkLevel.{LinkLevel}
use Rattle.sheets.specs.Formats.{delay_format, level_format}
use Rattle.sheets.specs.declared.kind.Kind.{Kind}
use Rattle.sheets.specs.declared.kind.Kind.TheVariants as kind
use Rattle.sheets.specs.Headers.{kind_of}
use Rattle.sheets.specs.Refusals.{Acceptable}
use Rattle.sheets.specs.Summaries.{Checks, Summarizes}
use Rattle.sheets.specs.declared.summary.Summary.{Summary}
use Rattle.sheets.specs.declared.sheet_summary.SheetSummary.{SheetSummary}
use Rattle.sheets.specs.declared.sheet_summary.SheetSummary.TheVariants.{Delays, LinkLevels}

-- a sheet is read as one of link levels where it calls itself so, and else as one of delays
abbrev pub OfLevels : List ℕ → Type 0
OfLevels bytes = kind_of bytes ≡ level_format.kind

-- the kind as which a sheet is read
abbrev pub IsReadAs : List ℕ → Kind → Type 0
IsReadAs bytes kind.Delays = OfLevels bytes → ⊥
IsReadAs bytes kind.LinkLevels = OfLevels bytes

module _ (bytes : List ℕ) (delays delays_after : List Delay) (levels levels_after : List LinkLevel) where
  abbrev pub ChecksEither : Result SheetSummary SheetFault → Type 0
  ChecksEither (Ok (Delays s)) = (OfLevels bytes → ⊥) × Checks delay_before delay_format bytes delays delays_after (Ok s) × (levels_after ≡ levels)
  ChecksEither (Ok (LinkLevels s)) = OfLevels bytes × Checks level_before level_format bytes levels levels_after (Ok s) × (delays_after ≡ delays)
  ChecksEither (Err e) =
      (OfLevels bytes → Checks level_before level_format bytes levels levels_after (Err e) × (delays_after ≡ delays))
      × ((OfLevels bytes → ⊥) → Checks delay_before delay_format bytes delays delays_after (Err e) × (levels_after ≡ levels))

-- every sheet that carries a list of either kind is answered by a report on that list
pub record AcceptsEither (bytes : List ℕ) (delays : List Delay) (levels : List LinkLevel) (r : Result SheetSummary SheetFault) : Type 0 where
  pub of_delays : (xs : List Delay) → Acceptable delay_before delay_format bytes (length delays) xs → (s : Summary Delay) × (r ≡ Ok (Delays s)) × Summarizes delay_before xs s
  pub of_levels : (xs : List LinkLevel) → Acceptable level_before level_format bytes (length levels) xs →
      (s : Summary LinkLevel) × (r ≡ Ok (LinkLevels s)) × Summarizes level_before xs s
