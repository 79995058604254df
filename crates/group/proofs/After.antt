-- What a verdict leaves of the first states of a table, which are the seats.
use Rattle.std.proofs.Common.{◌≡◌, ℕ, zero, suc, ◌-◌, ◌/◌, ◌<◌, List, [], ◌∷◌, length, map, sym, refl, ap, ◌∙◌, subst, arith}
use Rattle.group.specs.SeatStates.{IsAfter, AreAfter}
use Rattle.group.specs.SeatTables.{weave}
use Rattle.group.specs.declared.seat_state.SeatState.{SeatState}
use Rattle.referees.specs.declared.verdict.GroupVerdict.{GroupVerdict}
use Rattle.group.specs.SeatValues.{seat_after}
use Rattle.group.proofs.Seated.{seated}

-- no states are none after a verdict
none_after : (verdict : GroupVerdict) (n : ℕ) (new : List SeatState) → AreAfter verdict n [] new → new ≡ []
none_after verdict zero new after = after
none_after verdict (suc n) new after = after

-- one state after a verdict is the first of one, and all of them
pub one_after : (verdict : GroupVerdict) (n : ℕ) (was seat : SeatState) → 0 < n → IsAfter verdict was seat →
    AreAfter verdict n (was ∷ []) (seat ∷ [])
one_after verdict zero was seat some after = absurd (omega arith)
one_after verdict (suc zero) was seat some after = (after, refl)
one_after verdict (suc (suc n)) was seat some after = (after, refl)

-- one state more of each part is two more of both
two_more : (verdict : GroupVerdict) (m k n : ℕ) (x y : SeatState) (xs ys us vs : List SeatState) →
    ((us vs : List SeatState) → AreAfter verdict m xs us → AreAfter verdict k ys vs → AreAfter verdict n (weave xs ys) (weave us vs)) →
    AreAfter verdict (suc m) (x ∷ xs) us → AreAfter verdict (suc k) (y ∷ ys) vs → AreAfter verdict (suc (suc n)) (x ∷ y ∷ weave xs ys) (weave us vs)
two_more verdict m k n x y xs ys [] vs others a b = absurd a
two_more verdict m k n x y xs ys (u ∷ us) [] others a b = absurd b
two_more verdict m k n x y xs ys (u ∷ us) (v ∷ vs) others a b = (a.0, (b.0, others us vs a.1 b.1))

-- where the first states of two parts are after a verdict, so are those of both
pub after_in_turns : (verdict : GroupVerdict) (n : ℕ) (xs ys us vs : List SeatState) → length xs ≡ length ys →
    AreAfter verdict (n - n / 2) xs us → AreAfter verdict (n / 2) ys vs → AreAfter verdict n (weave xs ys) (weave us vs)
after_in_turns verdict zero xs ys us vs e a b = ap (λ l. weave l vs) a ∙ ap (weave xs) b
after_in_turns verdict (suc n) [] ys us vs e a b = ap (λ l. weave l vs) (none_after verdict (suc n - suc n / 2) us a)
after_in_turns verdict (suc n) (x ∷ xs) [] us vs e a b = absurd (omega arith)
after_in_turns verdict (suc zero) (x ∷ xs) (y ∷ ys) [] vs e a b = absurd a
after_in_turns verdict (suc zero) (x ∷ xs) (y ∷ ys) (u ∷ us) vs e a b =
    subst (λ l. AreAfter verdict 1 (x ∷ y ∷ weave xs ys) (weave (u ∷ us) l)) (sym b) (a.0, ap (λ l. y ∷ weave l ys) a.1)
after_in_turns verdict (suc (suc n)) (x ∷ xs) (y ∷ ys) us vs e a b =
    let same : length xs ≡ length ys = omega arith in
    let half : suc (suc n) / 2 ≡ suc (n / 2) = omega arith in
    let other : suc (suc n) - suc (n / 2) ≡ suc (n - n / 2) = omega arith in
    two_more verdict (n - n / 2) (n / 2) n x y xs ys us vs (λ us vs. after_in_turns verdict n xs ys us vs same) (rw (half, other) at a) (rw half at b)

-- after a verdict, the state of each seat is what the verdict leaves of the one before
pub seated_after : (verdict : GroupVerdict) (n : ℕ) (old new : List SeatState) → AreAfter verdict n old new →
    seated n new ≡ map (seat_after verdict) (seated n old)
seated_after verdict zero old new after = refl
seated_after verdict (suc n) [] new after = ap (seated (suc n)) after
seated_after verdict (suc n) (was ∷ old) [] after = absurd after
seated_after verdict (suc n) (was ∷ old) (seat ∷ new) after =
    λ i. record { known = after.0.0 i; given = after.0.1 i } ∷ seated_after verdict n old new after.1 i
