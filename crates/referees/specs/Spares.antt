-- The stock of a spare, and which of its two referees pays for an answered question.
use Rattle.std.specs.Prelude.{◌≡◌, ℕ, ◌+◌, ◌<◌}

-- what a spare is: the referee that is used first, and the one that is used then
pub record SpareParts (R S : Type 0) : Type 0 where
  pub first : R
  pub second : S

-- what both have together
abbrev pub spare_stock : {R S : Type 0} → (R → ℕ) → (S → ℕ) → SpareParts R S → ℕ
spare_stock first_stock second_stock spare = first_stock spare.first + second_stock spare.second

-- the second of a spare is untouched while the first has stock, and the first once it is empty
pub record SpendsInTurn {R S : Type 0} (first_stock : R → ℕ) (first_spends : R → R → Type 0) (second_stock : S → ℕ) (second_spends : S → S → Type 0) (old new : SpareParts R S) : Type 0 where
  pub first : 0 < first_stock old.first → (new.second ≡ old.second) × (first_stock old.first ≡ first_stock new.first + 1) × first_spends old.first new.first
  pub then_second : first_stock old.first ≡ 0 → (new.first ≡ old.first) × (second_stock old.second ≡ second_stock new.second + 1) × second_spends old.second new.second
