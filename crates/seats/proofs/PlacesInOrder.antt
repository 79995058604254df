-- Lists in order, by their places: how many are below or above a number, and when all are in a range.
use Rattle.std.proofs.Common.{◌≡◌, ℕ, ◌-◌, ◌<◌, ◌≤◌, Bool, true, false, not, nat_lt, leb, List, map, length, get_or, sym, ap, ◌∙◌, arith}
use Rattle.std.specs.List.Sorted.{IsNonDecreasingBy, IsPartitionPoint}
use Rattle.std.proofs.lemmas.Bool.{ltb-false}
use Rattle.std.proofs.lemmas.Bool.Decides.{nat_tests}
use Rattle.std.proofs.lemmas.List.{get_or_default}
use Rattle.std.proofs.lemmas.List.Elements.{recursion_from_All}
use Rattle.elements.specs.Orders.{NeverFalls, PlacesAgree}
use Rattle.elements.specs.Ranks.{count}
use Rattle.elements.proofs.ListCounts.{count_past, count-front, count-not, count_same, count-map}
use Rattle.group.specs.SeatCounts.{below, above, Within}

-- the places of a list in order do not fall
pub places_never_fall : {E : Type 0} (before : E → E → Bool) (place : E → ℕ) → PlacesAgree before place → (xs : List E) →
    NeverFalls before xs → IsNonDecreasingBy place xs
places_never_fall before place agrees xs in_order i j d h l = ltb-false _ _ (sym (agrees _ _) ∙ in_order i j d h l)

-- as many elements pass a test as stand before its partition point
count_to_point : {E : Type 0} (p : E → Bool) (xs : List E) (i : ℕ) → i ≤ length xs →
    IsPartitionPoint (λ x. p x ≡ true) (λ x. p x ≡ false) xs i → count p xs ≡ i
count_to_point p xs i inside point =
    omega (arith, count_past p xs i point.1, count-front p xs i inside (λ k d l. point.0 k d (omega arith) l))

module _ {E : Type 0} (place : E → ℕ) (m : ℕ) (xs : List E) (i : ℕ) (inside : i ≤ length xs) where
  -- as many places are below m as elements stand before the partition point of that test
  pub below_to_point : IsPartitionPoint (λ x. nat_lt (place x) m ≡ true) (λ x. nat_lt (place x) m ≡ false) xs i →
      below m (map place xs) ≡ i
  below_to_point point = count-map (λ n. nat_lt n m) place xs ∙ count_to_point (λ x. nat_lt (place x) m) xs i inside point

  -- as many are above m as elements stand from the partition point of being at most m on
  pub above_from_point : IsPartitionPoint (λ x. leb (place x) m ≡ true) (λ x. leb (place x) m ≡ false) xs i →
      above m (map place xs) ≡ length xs - i
  above_from_point point =
      omega (
        arith,
        count-map (λ n. nat_lt m n) place xs,
        count_same (λ x. nat_lt m (place x)) (λ x. not (leb (place x) m)) xs (λ x. grind (arith, nat_tests)),
        count-not (λ x. leb (place x) m) xs,
        count_to_point (λ x. leb (place x) m) xs i inside point,
      )

-- where places do not fall, all are in a range if the first and the last are
pub within_by_ends : {E : Type 0} (place : E → ℕ) (lo hi : ℕ) (xs : List E) → IsNonDecreasingBy place xs → (first last : E) →
    first ≡ get_or xs 0 first → last ≡ get_or xs (length xs - 1) last → lo ≤ place first → place last ≤ hi → Within place lo hi xs
within_by_ends place lo hi xs up first last at_first at_last low high =
    recursion_from_All (λ x. (lo ≤ place x) × (place x ≤ hi)) xs (λ k d h.
    let l : length xs - 1 < length xs = omega (arith, h) in (
      omega (arith, low, up 0 k d (omega arith) h, ap place (at_first ∙ get_or_default xs 0 first d (omega (arith, h)))),
      omega (arith, high, up k (length xs - 1) d (omega (arith, h)) l, ap place (at_last ∙ get_or_default xs _ last d l)),
    ))
