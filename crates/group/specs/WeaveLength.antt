-- Lists taken in turns.
use Rattle.std.specs.Prelude.{◌≡◌, ◌*◌, List, [], ◌∷◌, length, refl}
use Rattle.std.proofs.Common.{arith}
use Rattle.group.specs.SeatTables.{weave}

-- two lists of one length make one of twice the length
pub length-weave : {X : Type 0} (xs ys : List X) → length xs ≡ length ys → length (weave xs ys) ≡ 2 * length xs
length-weave [] ys e = refl
length-weave (x ∷ xs) [] e = omega arith
length-weave (x ∷ xs) (y ∷ ys) e = let e' : length xs ≡ length ys = omega arith in omega (arith, length-weave xs ys e')
