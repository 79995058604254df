-- Worked examples of the definitions.
use Rattle.std.specs.Prelude.{◌≡◌, ℕ, ◌-◌, ◌^◌, List, [], ◌∷◌, pos, negsuc, Some, None, Ok, Err, codes, nat_lt}
use Rattle.std.proofs.Common.{lit<}
use Rattle.faults.specs.FaultInfos.{run_info}
use Rattle.faults.specs.Printing.{fault_line}
use Rattle.faults.specs.declared.refusal.Refusal.TheVariants.{OutOfOrder, OutsideRange, RankOutOfBounds, Impossible}
use Rattle.faults.specs.declared.seat.Seat.TheVariants.{A, B, Numbered}
use Rattle.faults.specs.declared.fault.SeatFault.TheVariants.{OfSheet, Own}
use Rattle.faults.specs.declared.fault.RunFault.TheVariants.{OfSeat, Own as OwnRun}
use Rattle.elements.specs.LinkLevels.{level_place}
use Rattle.elements.specs.declared.delay.Delay.{Delay}
use Rattle.elements.specs.declared.link_level.LinkLevel.{LinkLevel}
use Rattle.elements.specs.Ranks.{joint, in_order, Ranked, Counted}
use Rattle.elements.specs.Percentiles.{median_rank, percentile_rank, out_of_bounds}
use Rattle.sheets.specs.Layouts.{layout}
use Rattle.sheets.specs.Kinds.{NamesKind}
use Rattle.sheets.specs.declared.kind.Kind.{Kind}
use Rattle.sheets.specs.declared.kind.Kind.TheVariants as kind
use Rattle.sheets.specs.declared.kind.UnknownKind.{UnknownKind}
use Rattle.sheets.specs.Formats.{delay_format, level_format}
use Rattle.sheets.specs.Printing.{sheet_summary_text}
use Rattle.sheets.specs.declared.summary.AtRank.{AtRank}
use Rattle.sheets.specs.declared.sheet_summary.SheetSummary.{SheetSummary}
use Rattle.sheets.specs.declared.sheet_summary.SheetSummary.TheVariants.{Delays}

abbrev forty : Delay
forty = record { micros = 40; fits = lit< tt }

abbrev three_hundred : Delay
three_hundred = record { micros = 300; fits = lit< tt }

-- -42.50 dBm on link 7
abbrev on_link_7 : LinkLevel
on_link_7 = record { level = negsuc 4249; link = 7; low = record { le = tt }; high = record { le = tt }; fits = lit< tt }

abbrev lowest_level : LinkLevel
lowest_level = record { level = negsuc (2 ^ 31 - 1); link = 0; low = record { le = tt }; high = record { le = tt }; fits = lit< tt }

abbrev highest_level : LinkLevel
highest_level = record { level = pos (2 ^ 31 - 1); link = 2 ^ 32 - 1; low = record { le = tt }; high = record { le = tt }; fits = lit< tt }

pub record Layouts : Type 0 where
  pub empty : layout delay_format [] ≡ 1 ∷ 0 ∷ 0 ∷ 0 ∷ 1 ∷ 1 ∷ []
  pub two_delays : layout delay_format (forty ∷ three_hundred ∷ []) ≡ 1 ∷ 0 ∷ 0 ∷ 0 ∷ 9 ∷ 1 ∷ 0 ∷ 0 ∷ 0 ∷ 40 ∷ 0 ∷ 0 ∷ 1 ∷ 44 ∷ []
  pub one_level : layout level_format (on_link_7 ∷ []) ≡ 1 ∷ 0 ∷ 0 ∷ 0 ∷ 9 ∷ 2 ∷ 0xff ∷ 0xff ∷ 0xef ∷ 0x66 ∷ 0 ∷ 0 ∷ 0 ∷ 7 ∷ []

-- the byte 2 names link levels and nothing else, and is not unknown; 3 names no kind
pub record Kinds : Type 0 where
  pub of_2 : NamesKind 2 (Ok kind.LinkLevels)
  pub not_of_2 : NamesKind 2 (Ok kind.Delays) → ⊥
  pub known_2 : (u : UnknownKind) → NamesKind 2 (Err u) → ⊥
  pub none_of_3 : (k : Kind) → NamesKind 3 (Ok k) → ⊥

pub record Places : Type 0 where
  pub first : level_place lowest_level ≡ 0
  pub last : level_place highest_level ≡ 2 ^ 64 - 1

-- the lists 12, 40, 55 and 20, 31, 70
abbrev two_lists : List (List ℕ)
two_lists = (12 ∷ 40 ∷ 55 ∷ []) ∷ (20 ∷ 31 ∷ 70 ∷ []) ∷ []

pub record Ranks : Type 0 where
  pub in_order : in_order nat_lt (joint two_lists) ≡ 12 ∷ 20 ∷ 31 ∷ 40 ∷ 55 ∷ 70 ∷ []
  pub fourth : Ranked nat_lt 4 (joint two_lists) 40
  pub fourth_counted : Counted nat_lt 4 (joint two_lists) 40
  pub repeats_kept : Ranked nat_lt 2 (31 ∷ 31 ∷ 40 ∷ []) 31

pub record Percentiles : Type 0 where
  pub median_of_11 : median_rank 11 ≡ Ok 6
  pub median_of_none : median_rank 0 ≡ out_of_bounds
  pub fiftieth_of_11 : percentile_rank 50 11 ≡ Ok 5
  pub raised_to_1 : percentile_rank 1 99 ≡ Ok 1
  pub ninetieth_of_6 : percentile_rank 90 6 ≡ Ok 5
  pub hundredth : percentile_rank 100 6 ≡ out_of_bounds

abbrev at : ℕ → Delay → AtRank Delay
at rank x = record { rank = rank; element = x }

-- a summary of the delays 40, 300, 300
abbrev three_delays : SheetSummary
three_delays = Delays (record {
  count = 3;
  highlights = Some (record { lowest = at 1 forty; median = at 2 three_hundred; ninetieth = at 2 three_hundred; highest = at 3 three_hundred });
})

pub record Lines : Type 0 where
  pub of_sheet : fault_line (run_info (OfSeat (OfSheet (record { refusal = OutOfOrder 3; seat = Some B })))) ≡ codes "refused 6 sheet B 3"
  pub of_seat : fault_line (run_info (OfSeat (Own (OutsideRange 2) (Some (Numbered 16))))) ≡ codes "refused 12 seat 16 2"
  pub of_far_spot : fault_line (run_info (OfSeat (Own (OutsideRange 4294967297) (Some (Numbered 16))))) ≡ codes "refused 12 seat 16 4294967297"
  pub of_run : fault_line (run_info (OwnRun Impossible (Some A))) ≡ codes "refused 14 run A -"
  pub of_rank_call : fault_line (run_info (OwnRun RankOutOfBounds None)) ≡ codes "refused 11 run - -"
  pub of_empty_list : sheet_summary_text (Delays (record { count = 0; highlights = None })) ≡ Some (codes "kind: delays\nelements: 0 (the list is empty)")
  pub of_report : sheet_summary_text three_delays ≡ Some (codes "kind: delays\nelements: 3\nlowest: 40 (rank 1)\nmedian: 300 (rank 2)\n90th percentile: 300 (rank 2)\nhighest: 300 (rank 3)")
