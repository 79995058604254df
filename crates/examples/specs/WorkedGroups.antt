-- Worked examples of a group's exchange: the lists are 3, 9 and 4 and 9, 12, each element is its own place, the range is 0
-- to 15 and the rank is 3.
use Rattle.std.specs.Prelude.{◌≡◌, ℕ, ◌+◌, ◌-◌, ◌^◌, ◌≤◌, true, false, List, [], ◌∷◌, map, Some, None, Option, IfSome}
use Rattle.std.proofs.Common.{lit≤}
use Rattle.group.specs.SeatTables.{weave}
use Rattle.group.specs.SeatTotals.{totals_of}
use Rattle.elements.specs.Limits.{saturated}
use Rattle.group.specs.declared.seat_state.SeatState.{SeatState}
use Rattle.referees.specs.Verdicts.{weight_of}
use Rattle.referees.specs.declared.verdict.GroupVerdict.{GroupVerdict}
use Rattle.referees.specs.declared.verdict.GroupVerdict.TheVariants.{Lower, Higher, Done}
use Rattle.group.specs.SeatCounts.{below, above, weighed, verdict_knowing}
use Rattle.group.specs.Exchanges.{group_round, FinishedExchange}
use Rattle.group.specs.GroupLaws.{standing_after}
use Rattle.group.specs.GroupProtocol.{left_after, known_after}
use Rattle.group.specs.Ranges.{target, from_after, to_after}
use Rattle.group.specs.Searches.{Search}
use Rattle.group.specs.SeatRules.{Round, round, Report, first_bounds, keeps_rules}
use Rattle.group.specs.declared.counts.Counts.{Counts}
use Rattle.group.specs.declared.count_bounds.CountBounds.{CountBounds}

abbrev three_lists : List (List ℕ)
three_lists = (3 ∷ 9 ∷ []) ∷ (4 ∷ []) ∷ (9 ∷ 12 ∷ []) ∷ []

abbrev place : ℕ → ℕ
place n = n

abbrev pub counts : (l g : ℕ) → Counts
counts l g = record { below = l; above = g }

abbrev pub known : (declared low high : ℕ) → CountBounds
known declared low high = record { declared = declared; low = low; high = high }

abbrev four_verdicts : List GroupVerdict
four_verdicts = Higher ∷ Lower ∷ Lower ∷ Done ∷ []

pub record Targets : Type 0 where
  pub first : target 0 15 ≡ 8
  pub second : target 9 15 ≡ 12
  pub third : target 9 11 ≡ 10
  pub fourth : target 9 9 ≡ 9
  pub after_higher : from_after Higher 0 15 ≡ 9
  pub after_lower : to_after Lower 9 15 ≡ 11
  pub of_all_places : target 0 (2 ^ 64 - 1) ≡ 2 ^ 63
  pub of_the_last_two : target (2 ^ 64 - 2) (2 ^ 64 - 1) ≡ 2 ^ 64 - 1

-- the first seat's list at the four targets
pub record Countings : Type 0 where
  pub below_8 : below 8 (3 ∷ 9 ∷ []) ≡ 1
  pub above_8 : above 8 (3 ∷ 9 ∷ []) ≡ 1
  pub below_9 : below 9 (3 ∷ 9 ∷ []) ≡ 1
  pub above_9 : above 9 (3 ∷ 9 ∷ []) ≡ 0

pub record GroupSearches : Type 0 where
  pub weighed_search : Search (weighed place 3 three_lists) 0 15 four_verdicts 9
  pub judged_search : Search (verdict_knowing 9) 0 15 four_verdicts 9
  pub one_place : Search (weighed place 1 ((7 ∷ []) ∷ (7 ∷ []) ∷ [])) 7 7 (Done ∷ []) 7

-- the first seat's honest rounds before the fourth
abbrev three_rounds : List Round
three_rounds = round (counts 1 1) Higher ∷ round (counts 2 0) Lower ∷ round (counts 2 0) Lower ∷ []

abbrev pub report : (m : ℕ) → Counts → Report
report m counts = record { target = m; counts = counts }

-- Both ends of the range are 9 then, and one place is known to be below: two cannot be, though the first three rules pass.
pub record Rules : Type 0 where
  -- it follows from the verdicts and the seat's reports, the newest first, as from the rounds
  pub range_by_verdicts : left_after 0 15 (Lower ∷ Lower ∷ Higher ∷ []) ≡ record { a = 9; b = 9 }
  pub known_by_reports : known_after 2 (Lower ∷ Lower ∷ Higher ∷ []) (report 10 (counts 2 0) ∷ report 12 (counts 2 0) ∷ report 8 (counts 1 1) ∷ []) ≡ known 2 1 0
  pub standing : standing_after (record { a = 0; b = 15; seat = first_bounds 2 }) three_rounds ≡ record { a = 9; b = 9; seat = known 2 1 0 }
  pub honest : keeps_rules 9 9 (known 2 1 0) (counts 1 0) ≡ true
  pub at_edge : keeps_rules 9 9 (known 2 1 0) (counts 2 0) ≡ false
  -- accepted, it would make the verdict lower and the range empty
  pub would_be_lower : weight_of 3 1 3 5 ≡ Lower
  pub would_end_at : to_after Lower 9 9 ≡ 8
  pub too_many : keeps_rules 0 15 (known 2 0 0) (counts 2 1) ≡ false
  -- for rank 4 the same lists come to the same range, and at its other end likewise
  pub at_other_edge : keeps_rules 9 9 (known 2 1 0) (counts 1 1) ≡ false
  pub would_be_higher : weight_of 2 2 4 5 ≡ Higher
  pub would_begin_at : from_after Higher 9 9 ≡ 10
  pub too_few_below : keeps_rules 9 15 (known 2 1 0) (counts 0 2) ≡ false
  pub too_few_above : keeps_rules 9 11 (known 2 0 1) (counts 2 0) ≡ false

-- the finished exchange of honest seats
pub record GroupExchanges : Type 0 where
  pub four_rounds : FinishedExchange 3 5 0 15 (map first_bounds (2 ∷ 1 ∷ 2 ∷ []))
      (group_round (counts 1 1 ∷ counts 1 0 ∷ counts 0 2 ∷ []) Higher
      ∷ group_round (counts 2 0 ∷ counts 1 0 ∷ counts 1 0 ∷ []) Lower
      ∷ group_round (counts 2 0 ∷ counts 1 0 ∷ counts 1 1 ∷ []) Lower
      ∷ group_round (counts 1 0 ∷ counts 1 0 ∷ counts 0 1 ∷ []) Done
      ∷ []) 9

-- the state of a seat of three elements that has given this
abbrev seat_with : (given : Option Counts) → IfSome given (λ c. c.below + c.above ≤ 3) → SeatState
seat_with given fits = record { known = known 3 0 0; given = given; short = lit≤ tt; fits = fits }

-- seats in two parts by their numbers, and what three of them add up to
pub record Tables : Type 0 where
  pub taken_in_turns : weave {X = ℕ} (0 ∷ 2 ∷ 4 ∷ []) (1 ∷ 3 ∷ 5 ∷ []) ≡ 0 ∷ 1 ∷ 2 ∷ 3 ∷ 4 ∷ 5 ∷ []
  pub totals : totals_of (seat_with (Some (counts 2 1)) (lit≤ tt) ∷ seat_with None tt ∷ seat_with (Some (counts 1 0)) (lit≤ tt) ∷ [])
      ≡ record { given = 2; below = 3; above = 1 }
  pub saturated : saturated (2 ^ 32 + 5) ≡ 2 ^ 32 - 1
