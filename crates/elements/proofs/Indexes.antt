-- Elements of a list by their index.
use Rattle.std.proofs.Common.{◌≡◌, ℕ, zero, suc, ◌<◌, List, [], ◌∷◌, length, get_or, refl, le_of_suc-le-suc, not-suc-le-zero}

-- there is an element at each index of a list
pub at_index : {X : Type 0} (xs : List X) (i : ℕ) → i < length xs → (x : X) × ((d : X) → get_or xs i d ≡ x)
at_index [] i h = absurd (not-suc-le-zero h)
at_index (x ∷ xs) zero h = (x, λ d. refl)
at_index (x ∷ xs) (suc i) h = at_index xs i (le_of_suc-le-suc h)
