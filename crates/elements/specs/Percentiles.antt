-- The rank of the median and of a percentile among n elements, and what these ranks mean.
use Rattle.std.specs.Prelude.{◌≡◌, ℕ, ◌+◌, ◌*◌, ◌/◌, ◌<◌, ◌≤◌, max, true, cond, ◌&&◌, ◌⊎◌, is_err, None, Ok, Err, Result, ◌==◌, nat_le}
use Rattle.faults.specs.declared.refusal.Refusal.TheVariants.{RankOutOfBounds}
use Rattle.faults.specs.declared.fault.RunFault.{RunFault}
use Rattle.faults.specs.declared.fault.RunFault.TheVariants.{Own}

-- how a call for a rank refuses
abbrev pub out_of_bounds : Result ℕ RunFault
out_of_bounds = Err (Own RankOutOfBounds None)

-- half of n, rounded up; refused where there is no element
abbrev pub median_rank : ℕ → Result ℕ RunFault
median_rank n = cond (n == 0) out_of_bounds (Ok ((n + 1) / 2))

-- p hundredths of n, rounded down, but at least 1; refused where there is no element or p is not 1 to 99
abbrev pub percentile_rank : ℕ → ℕ → Result ℕ RunFault
percentile_rank p n = cond (nat_le 1 p && (nat_le p 99 && nat_le 1 n)) (Ok (max 1 (p * n / 100))) out_of_bounds

-- r is the median's rank among n elements: the least number whose double reaches n, and one of the ranks 1 to n
pub record IsMedianRank (n r : ℕ) : Type 0 where
  pub reaches : n ≤ 2 * r
  pub least : (q : ℕ) → n ≤ 2 * q → r ≤ q
  pub first : 1 ≤ r
  pub last : r ≤ n

-- q is a rank, and at most p hundredths of n
pub record RankWithin (p n q : ℕ) : Type 0 where
  pub first : 1 ≤ q
  pub hundredths : 100 * q ≤ p * n

-- r is the rank of the percentile p among n elements: the largest rank that is at most p hundredths of n,
-- or 1 where no rank is, and one of the ranks 1 to n
pub record IsPercentileRank (p n r : ℕ) : Type 0 where
  pub within : RankWithin p n r ⊎ ((r ≡ 1) × ((q : ℕ) → RankWithin p n q → ⊥))
  pub largest : (q : ℕ) → RankWithin p n q → q ≤ r
  pub first : 1 ≤ r
  pub last : r ≤ n

-- the call for the median's rank refuses exactly if there is no element, and else answers that rank
pub record MedianAnswer (n : ℕ) (answer : Result ℕ RunFault) : Type 0 where
  pub refused_if : n ≡ 0 → is_err answer ≡ true
  pub refused_only_if : is_err answer ≡ true → n ≡ 0
  pub answered : (r : ℕ) → answer ≡ Ok r → IsMedianRank n r

-- there is no element, or p is not 1 to 99
abbrev pub NoPercentile : ℕ → ℕ → Type 0
NoPercentile p n = (n ≡ 0) ⊎ ((p < 1) ⊎ (99 < p))

-- the call for a percentile's rank refuses exactly if there is none, and else answers that rank
pub record PercentileAnswer (p n : ℕ) (answer : Result ℕ RunFault) : Type 0 where
  pub refused_if : NoPercentile p n → is_err answer ≡ true
  pub refused_only_if : is_err answer ≡ true → NoPercentile p n
  pub answered : (r : ℕ) → answer ≡ Ok r → IsPercentileRank p n r
