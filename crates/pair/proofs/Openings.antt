-- What an accepted opening says of the rank.
use Rattle.std.proofs.Common.{◌≡◌, ℕ, ◌+◌, ◌^◌, ◌≤◌, Bool, true, false, ◌||◌, [], ◌∷◌, None, ◌==◌, nat_lt, refl, arith}
use Rattle.std.proofs.lemmas.Bool.{or_parts, ltb-false, eqb-false}
use Rattle.faults.specs.declared.refusal.Refusal.{Refusal}
use Rattle.pair.specs.Rows.{halvings}
use Rattle.pair.specs.Bisection.{OfSides}
use Rattle.pair.specs.declared.side.Side.TheVariants.{A, B}
use Rattle.pair.proofs.Logarithms.{halvings_are_log}
use Rattle.faults.specs.RefusalOrder.{check, first_check}
use Rattle.pair.specs.PairCalls.{opening_refusal}

-- a rank among lists of these lengths, which are so short that a row for it is halved at most 17 times
pub record Allowed (declared : OfSides) (k : ℕ) : Type 0 where
  pub from_1 : 1 ≤ k
  pub up_to_all : k ≤ declared A + declared B
  pub few_halvings : halvings k ≤ 17

-- where neither of two checks refuses, neither of their conditions holds
neither_holds : (c d : Bool) (r s : Refusal) → first_check (check c r ∷ check d s ∷ []) ≡ None → (c ≡ false) × (d ≡ false)
neither_holds true d r s e = absurd cc
neither_holds false true r s e = absurd cc
neither_holds false false r s e = (refl, refl)

-- an opening that no check refuses has such a rank
pub opening_allowed : (declared : OfSides) (k : ℕ) → opening_refusal declared k ≡ None → Allowed declared k
opening_allowed declared k e =
    let c = neither_holds (nat_lt 65536 (declared A) || nat_lt 65536 (declared B)) (k == 0 || nat_lt (declared A + declared B) k) _ _ e in
    let long = or_parts (nat_lt 65536 (declared A)) (nat_lt 65536 (declared B)) c.0 in
    let out = or_parts (k == 0) (nat_lt (declared A + declared B) k) c.1 in
    let a : declared A ≤ 65536 = ltb-false 65536 (declared A) long.0 in
    let b : declared B ≤ 65536 = ltb-false 65536 (declared B) long.1 in
    let most : k ≤ declared A + declared B = ltb-false (declared A + declared B) k out.1 in
    let not_0 : k ≡ 0 → ⊥ = eqb-false k 0 out.0 in
    let small : k ≤ 2 ^ 17 = omega arith in
    record { from_1 = omega arith; up_to_all = most; few_halvings = (halvings_are_log k).least 17 small }
