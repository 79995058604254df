-- Lists that no seat of a group is refused.
use Rattle.std.proofs.Common.{ℕ, zero, suc, ◌+◌, ◌≤◌, Bool, List, [], ◌∷◌, length, get_or, Some, None, arith}
use Rattle.rankunit.specs.Elements.Orders.{NeverFalls}
use Rattle.rankunit.specs.Group.SeatCounts.{Within}
use Rattle.rankunit.specs.Seats.ListRefusals.{IsGroupRefusal}
use Rattle.rankunit.proofs.Seats.Refusals.{unrefused_fits as list_fits}
use Rattle.rankunit_c.specs.Measures.{FirstRefused}

module _ {T : Type 0} (before : T → T → Bool) (place : T → ℕ) (lo hi : ℕ) where
  -- a list in order, not too long, and within the range
  pub record Fits (xs : List T) : Type 0 where
    pub in_order : NeverFalls before xs
    pub short : length xs ≤ 65536
    pub within : Within place lo hi xs

  -- a list that is not refused is such a list
  pub unrefused_fits : (xs : List T) → IsGroupRefusal before place lo hi xs None → Fits xs
  unrefused_fits xs (Some first, is, e) = absurd cc
  unrefused_fits xs (None, is, (Some number, outside, e)) = absurd cc
  unrefused_fits xs (None, is, (None, within, e)) =
      let by_list = list_fits before xs is in record { in_order = by_list.0; short = by_list.1; within = within }

  -- so where none of some lists is refused, each is such a list
  pub each_fits : (number : ℕ) (lists : List (List T)) → FirstRefused before place lo hi number lists None →
      (i : ℕ) → i + 1 ≤ length lists → Fits (get_or lists i [])
  each_fits number [] none i within = absurd (omega arith)
  each_fits number (xs ∷ later) (Some refusal, is, e) i within = absurd cc
  each_fits number (xs ∷ later) (None, is, none) zero within = unrefused_fits xs is
  each_fits number (xs ∷ later) (None, is, none) (suc i) within = each_fits (number + 1) later none i (omega arith)
