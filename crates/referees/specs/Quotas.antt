-- The stock of a quota, and what it pays for an answered question.
use Rattle.std.specs.Prelude.{◌≡◌, ℕ, ◌+◌, min}

-- what a quota is: how many questions it still lets through, and the referee below
pub record QuotaParts (R : Type 0) : Type 0 where
  pub own : ℕ
  pub below : R

-- the smaller of its own number and the stock below
abbrev pub quota_stock : {R : Type 0} → (R → ℕ) → QuotaParts R → ℕ
quota_stock below_stock quota = min quota.own (below_stock quota.below)

-- an answered question lowers a quota's own number and the stock below it, each by one, and takes below what it takes there
pub record LowersBoth {R : Type 0} (below_stock : R → ℕ) (below_spends : R → R → Type 0) (old new : QuotaParts R) : Type 0 where
  pub own : old.own ≡ new.own + 1
  pub below : below_stock old.below ≡ below_stock new.below + 1
  pub spent_below : below_spends old.below new.below
