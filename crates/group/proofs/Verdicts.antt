-- When a verdict is lower, higher or done, and what each says.
use Rattle.std.proofs.Common.{◌≡◌, ℕ, ◌+◌, ◌<◌, ◌≤◌, arith}
use Rattle.std.proofs.lemmas.Bool.Decides.{nat_tests}
use Rattle.referees.specs.Verdicts.{weight_of}
use Rattle.referees.specs.declared.verdict.GroupVerdict.TheVariants.{Lower, Higher, Done}
use Rattle.group.specs.SeatCounts.{verdict_knowing}

module _ (below above k n : ℕ) where
  -- lower is weighed where the sum below is k or more
  pub weight_lower : k ≤ below → weight_of below above k n ≡ Lower
  weight_lower h = grind (arith, nat_tests)

  -- higher is weighed where it is less, and the sum above and k together pass n
  pub weight_higher : below < k → n < above + k → weight_of below above k n ≡ Higher
  weight_higher h l = grind (arith, nat_tests)

  -- done is weighed else
  pub weight_done : below < k → above + k ≤ n → weight_of below above k n ≡ Done
  weight_done h l = grind (arith, nat_tests)

  -- where lower is weighed, the sum below is k or more
  pub weighed_lower : weight_of below above k n ≡ Lower → k ≤ below
  weighed_lower e = grind (arith, nat_tests)

  -- where higher is weighed, the sum above and k together pass n
  pub weighed_higher : weight_of below above k n ≡ Higher → n < above + k
  weighed_higher e = grind (arith, nat_tests)

module _ (x m : ℕ) where
  -- the verdict is lower where x is below the target
  pub judged_lower : x < m → verdict_knowing x m ≡ Lower
  judged_lower h = grind (arith, nat_tests)

  -- it is higher where x is above it
  pub judged_higher : m < x → verdict_knowing x m ≡ Higher
  judged_higher h = grind (arith, nat_tests)

  -- it is done where x is the target
  pub judged_done : x ≡ m → verdict_knowing x m ≡ Done
  judged_done e = grind (arith, nat_tests)
