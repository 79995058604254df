-- A referee that is lent.
use Rattle.std.specs.Prelude.{◌≡◌, ℕ}
use Rattle.std.specs.Borrow.{MutBor}

-- its stock is that of the referee behind the reference
abbrev pub lent_stock : {R : Type 0} → (R → ℕ) → MutBor R → ℕ
lent_stock stock referee = stock referee.now

-- what an answered question changes behind the reference; the loan stays the same loan, so that it is the lender's to see
abbrev pub lent_spends : {R : Type 0} → (R → R → Type 0) → MutBor R → MutBor R → Type 0
lent_spends spends old new = (new.ghost_name ≡ old.ghost_name) × spends old.now new.now
