-- A number of verdicts tells each of them.
use Rattle.std.proofs.Common.{◌≡◌, ℕ, zero, suc, ◌+◌, ◌*◌, ◌/◌, ◌%◌, ◌^◌, ◌<◌, List, [], ◌∷◌, length, Some, sym, ap, ◌∙◌, subst, arith}
use Rattle.std.specs.Prelude.{slice_get}
use Rattle.std.specs.Int.{bit_at}
use Rattle.std.proofs.Math.Nat.{pow-suc}
use Rattle.std.proofs.lemmas.Nat.Bits.{bit_at_lowest, bit_at-suc}
use Rattle.rankunit.specs.Referees.Verdicts.{verdict_number}
use Rattle.rankunit.specs.Referees.declared.verdict.PairVerdict.{PairVerdict}
use Rattle.rankunit.specs.Referees.declared.verdict.PairVerdict.TheVariants.{Before, NotBefore}
use Rattle.rankunit_c.specs.Verdicts.{bits, TellsEach}

-- a verdict is one bit
below_two : (verdict : PairVerdict) → verdict_number verdict < 2
below_two Before = omega arith
below_two NotBefore = omega arith

-- the lowest bit is the first verdict, and the higher ones tell the later verdicts
lowest : (b m : ℕ) → b < 2 → (b + 2 * m) % 2 ≡ b
lowest b m small = omega arith

higher : (b m : ℕ) → b < 2 → (b + 2 * m) / 2 ≡ m
higher b m small = omega arith

each : (verdicts : List PairVerdict) (i : ℕ) (verdict : PairVerdict) → slice_get verdicts i ≡ Some verdict →
    bit_at (bits verdicts) i ≡ verdict_number verdict
each [] i verdict there = absurd cc
each (first ∷ later) zero verdict there =
    let is : first ≡ verdict = cc in
    bit_at_lowest (bits (first ∷ later)) ∙ lowest (verdict_number first) (bits later) (below_two first) ∙ ap verdict_number is
each (first ∷ later) (suc i) verdict there =
    bit_at-suc (bits (first ∷ later)) i ∙ ap (λ (n : ℕ). bit_at n i) (higher (verdict_number first) (bits later) (below_two first))
    ∙ each later i verdict there

no_more : (verdicts : List PairVerdict) → bits verdicts < 2 ^ length verdicts
no_more [] = omega arith
no_more (first ∷ later) =
    let doubled : 2 ^ length (first ∷ later) ≡ 2 ^ length later * 2 = pow-suc 2 (length later) in
    omega (arith, doubled, no_more later, below_two first)

pub tells_each : (verdicts : List PairVerdict) (number : ℕ) → number ≡ bits verdicts → TellsEach verdicts number
tells_each verdicts number is = subst (TellsEach verdicts) (sym is) (record { each = each verdicts; no_more = no_more verdicts })
