-- How many places of a list are below a place, and how many above it.
use Rattle.std.proofs.Common.{◌≡◌, ℕ, ◌+◌, ◌-◌, ◌<◌, ◌≤◌, true, false, not, List, length, nat_lt, arith}
use Rattle.std.specs.List.{AllByRecursion as Each}
use Rattle.std.proofs.ByRecursion.{All-weaker}
use Rattle.std.proofs.lemmas.Bool.{lt-ltb, le-ltb}
use Rattle.std.proofs.lemmas.Bool.Decides.{nat_tests}
use Rattle.elements.proofs.ListCounts.{count_weaken, count-not, count_all, count_none}
use Rattle.group.specs.SeatCounts.{below, above}

module _ (m : ℕ) (xs : List ℕ) where
  -- where all are below m, as many are below it as there are
  pub below_all : Each (λ y. y < m) xs → below m xs ≡ length xs
  below_all a = count_all (λ y. nat_lt y m) xs (All-weaker (λ y. y < m) (λ y. nat_lt y m ≡ true) (λ y h. lt-ltb y m h) xs a)

  -- where all are from m on, none is below it
  pub below_none : Each (λ y. m ≤ y) xs → below m xs ≡ 0
  below_none a = count_none (λ y. nat_lt y m) xs (All-weaker (λ y. m ≤ y) (λ y. nat_lt y m ≡ false) (λ y h. le-ltb y m h) xs a)

  -- where all are above m, as many are above it as there are
  pub above_all : Each (λ y. m < y) xs → above m xs ≡ length xs
  above_all a = count_all (λ y. nat_lt m y) xs (All-weaker (λ y. m < y) (λ y. nat_lt m y ≡ true) (λ y h. lt-ltb m y h) xs a)

  -- where all are up to m, none is above it
  pub above_none : Each (λ y. y ≤ m) xs → above m xs ≡ 0
  above_none a = count_none (λ y. nat_lt m y) xs (All-weaker (λ y. y ≤ m) (λ y. nat_lt m y ≡ false) (λ y h. le-ltb m y h) xs a)

  -- every place is below m or above the one before it
  pub above_pred : 0 < m → above (m - 1) xs + below m xs ≡ length xs
  above_pred h =
      omega (
        arith,
        count-not (λ y. nat_lt y m) xs,
        count_weaken (λ y. not (nat_lt y m)) (λ y. nat_lt (m - 1) y) xs (λ y t. grind (arith, nat_tests)),
        count_weaken (λ y. nat_lt (m - 1) y) (λ y. not (nat_lt y m)) xs (λ y t. grind (arith, nat_tests)),
      )

  -- every place is above m or below the one after it
  pub below_suc : below (m + 1) xs + above m xs ≡ length xs
  below_suc =
      omega (
        arith,
        count-not (λ y. nat_lt m y) xs,
        count_weaken (λ y. not (nat_lt m y)) (λ y. nat_lt y (m + 1)) xs (λ y t. grind (arith, nat_tests)),
        count_weaken (λ y. nat_lt y (m + 1)) (λ y. not (nat_lt m y)) xs (λ y t. grind (arith, nat_tests)),
      )

module _ (a b : ℕ) (h : a ≤ b) (xs : List ℕ) where
  -- more are below a higher place
  pub below_mono : below a xs ≤ below b xs
  below_mono = count_weaken (λ y. nat_lt y a) (λ y. nat_lt y b) xs (λ y t. grind (arith, nat_tests))

  -- more are above a lower place
  pub above_mono : above b xs ≤ above a xs
  above_mono = count_weaken (λ y. nat_lt b y) (λ y. nat_lt a y) xs (λ y t. grind (arith, nat_tests))
