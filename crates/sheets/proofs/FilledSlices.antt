-- Writing the elements of a body into a slice.
use Rattle.std.proofs.Common.{◌≡◌, ℕ, ◌+◌, ◌<◌, List, [], ◌∷◌, ◌++◌, get_or, take, drop, set, ap, ◌∙◌, append_assoc, arith, length, length-take-le}
use Rattle.std.proofs.lemmas.List.{set_at, take_more, drop_more, take_all}
use Rattle.sheets.specs.Readings.{Filled}

-- one more element written
pub write_more : {X : Type 0} (xs was is : List X) (i : ℕ) (x : X) → i < length xs → i < length was → is ≡ take i xs ++ drop i was → get_or xs i x ≡ x →
    set is i x ≡ take (i + 1) xs ++ drop (i + 1) was
write_more xs was is i x h k e u =
    let p : drop i was ≡ get_or was i x ∷ drop (i + 1) was = drop_more was i x k in
    let q : take (i + 1) xs ≡ take i xs ++ (get_or xs i x ∷ []) = take_more xs i x h in
    let s : set (take i xs ++ (get_or was i x ∷ drop (i + 1) was)) i x ≡ take i xs ++ (x ∷ drop (i + 1) was)
    = set_at (take i xs) (get_or was i x) (drop (i + 1) was) x i (length-take-le i xs (omega arith)) in
    let t : (take i xs ++ (x ∷ [])) ++ drop (i + 1) was ≡ take i xs ++ (x ∷ drop (i + 1) was) = append_assoc (take i xs) (x ∷ []) (drop (i + 1) was) in
    cc

-- all elements written
pub written : {X : Type 0} (xs was is : List X) (i : ℕ) → i ≡ length xs → is ≡ take i xs ++ drop i was → Filled xs was is
written xs was is i all e = e ∙ (λ j. take (all j) xs ++ drop (all j) was) ∙ ap (λ l. l ++ drop (length xs) was) (take_all (length xs) xs (omega arith))
