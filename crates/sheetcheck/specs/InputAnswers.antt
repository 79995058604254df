-- What an input is answered that may be a sheet of either kind, and how the answer is printed.
use Rattle.std.specs.Prelude.{◌≡◌, ℕ, ◌≤◌, ◌<◌, List, length, ◌++◌, Some, Ok, Err, Option, Result, codes, decimal}
use Rattle.rankunit.specs.Faults.Printing.{fault_line}
use Rattle.rankunit.specs.Faults.FaultInfos.{sheet_info}
use Rattle.rankunit.specs.Faults.declared.fault.SheetFault.{SheetFault}
use Rattle.rankunit.specs.Elements.Limits.{longest_list}
use Rattle.rankunit.specs.Elements.declared.delay.Delay.{Delay}
use Rattle.rankunit.specs.Elements.declared.link_level.LinkLevel.{LinkLevel}
use Rattle.rankunit.specs.Sheets.Printing.{sheet_summary_text}
use Rattle.rankunit.specs.Sheets.SheetSummaries.{ChecksEither, AcceptsEither}
use Rattle.rankunit.specs.Sheets.declared.sheet_summary.SheetSummary.{SheetSummary}
use Rattle.sheetcheck.specs.declared.answer.InputAnswer.{InputAnswer}
use Rattle.sheetcheck.specs.declared.answer.InputAnswer.TheVariants.{Sheet, TooLong}

-- the bytes are checked as a sheet of either kind, with slices in which the longest list has room
pub record ChecksSheet (bytes : List ℕ) (r : Result SheetSummary SheetFault) : Type 0 where
  pub delays : List Delay
  pub delays_after : List Delay
  pub levels : List LinkLevel
  pub levels_after : List LinkLevel
  pub delays_room : length delays ≡ longest_list
  pub levels_room : length levels ≡ longest_list
  pub checks : ChecksEither bytes delays delays_after levels levels_after r
  pub accepts : AcceptsEither bytes delays levels r

-- 64 MiB
abbrev pub most_bytes : ℕ
most_bytes = 67108864

-- an input of at most so many bytes is a sheet, checked whole; a longer one is too long
abbrev pub AnswersInput : ℕ → List ℕ → InputAnswer → Type 0
AnswersInput most bytes (Sheet checked) = (length bytes ≤ most) × ChecksSheet bytes checked
AnswersInput most bytes (TooLong bound) = (most < length bytes) × (bound ≡ most)

-- as too long: over 67108864 bytes
abbrev pub answer_text : InputAnswer → Option (List ℕ)
answer_text (Sheet (Ok summary)) = sheet_summary_text summary
answer_text (Sheet (Err fault)) = Some (fault_line (sheet_info fault))
answer_text (TooLong bound) = Some (codes "too long: over " ++ (decimal bound ++ codes " bytes"))
