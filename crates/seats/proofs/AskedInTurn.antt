-- Questions asked of a referee in turn.
use Rattle.std.proofs.Common.{◌≡◌, ℕ, ◌+◌, sym, subst, add-one}
use Rattle.referees.specs.Plays.{SpendsEach, one_more}

module _ {R : Type 0} (spends : R → R → Type 0) (made : ℕ) (old : R) {between new : R} where
  -- one question more
  pub asked_once_more : SpendsEach spends old made between → spends between new → SpendsEach spends old (made + 1) new
  asked_once_more asked spent = subst (λ (n : ℕ). SpendsEach spends old n new) (sym (add-one made)) (one_more asked spent)

module _ {R : Type 0} (spends : R → R → Type 0) (made number : ℕ) (is : made ≡ number) (old : R) {between new : R} (same : new ≡ between) where
  -- the same number of questions, and the same referee
  pub asked_as_many : SpendsEach spends old made between → SpendsEach spends old number new
  asked_as_many asked =
      subst (λ (r : R). SpendsEach spends old number r) (sym same) (subst (λ (n : ℕ). SpendsEach spends old n between) is asked)
