-- How a summary is printed, byte by byte.
use Rattle.std.specs.Prelude.{ℕ, List, ◌++◌, Some, None, codes, decimal, Option}
use Rattle.std.specs.Fmt.{option_append}
use Rattle.elements.specs.Printing.{delay_text, level_text}
use Rattle.sheets.specs.declared.summary.AtRank.{AtRank}
use Rattle.sheets.specs.declared.summary.Highlights.{Highlights}
use Rattle.sheets.specs.declared.summary.Summary.{Summary}
use Rattle.sheets.specs.declared.sheet_summary.SheetSummary.{SheetSummary}
use Rattle.sheets.specs.declared.sheet_summary.SheetSummary.TheVariants.{Delays, LinkLevels}

module _ {E : Type 0} (printed : E → Option (List ℕ)) where
  -- as 31 (rank 3)
  abbrev pub at_rank_text : AtRank E → Option (List ℕ)
  at_rank_text a = option_append (printed a.element) (Some (codes " (rank " ++ (decimal a.rank ++ codes ")")))

  abbrev pub highlights_text : ℕ → Option (Highlights E) → Option (List ℕ)
  highlights_text count None = option_append (Some (codes "elements: ")) (option_append (Some (decimal count)) (Some (codes " (the list is empty)")))
  highlights_text count (Some h) =
      option_append (Some (codes "elements: ")) (option_append (Some (decimal count)) (option_append (Some (codes "\nlowest: ")) (option_append (at_rank_text h.lowest) (option_append (Some (codes "\nmedian: "))
      (option_append (at_rank_text h.median) (option_append (Some (codes "\n90th percentile: ")) (option_append (at_rank_text h.ninetieth) (option_append (Some (codes "\nhighest: ")) (at_rank_text h.highest)))))))))

  abbrev pub summary_text : Summary E → Option (List ℕ)
  summary_text s = highlights_text s.count s.highlights

abbrev pub sheet_summary_text : SheetSummary → Option (List ℕ)
sheet_summary_text (Delays s) = option_append (Some (codes "kind: delays\n")) (summary_text (λ x. Some (delay_text x)) s)
sheet_summary_text (LinkLevels s) = option_append (Some (codes "kind: link levels\n")) (summary_text (λ x. Some (level_text x)) s)
