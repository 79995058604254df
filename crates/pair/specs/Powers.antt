-- Powers of two, each the power to one exponent.
use Rattle.std.specs.Prelude.{◌≡◌, ℕ, ◌^◌, ◌<◌}
use Rattle.std.specs.Int.{IsPowerOfTwo}
use Rattle.std.proofs.Common.{sym, ◌∙◌, subst, inl, inr, arith}
use Rattle.std.proofs.Math.Pow.{pow-lt}
use Rattle.std.proofs.Props.{props}
use Rattle.std.proofs.lemmas.Bool.{cases_order}

-- two exponents of one power are equal
pub exponents_equal : (j k : ℕ) → 2 ^ j ≡ 2 ^ k → j ≡ k
exponents_equal j k e =
    elim (cases_order j k) [
      | inl same ↦ same
      | inr unequal ↦ elim unequal [
        | inl less ↦ (let l : 2 ^ j < 2 ^ k = pow-lt less in absurd (omega arith))
        | inr more ↦ (let l : 2 ^ k < 2 ^ j = pow-lt more in absurd (omega arith))
      ]
    ]

-- that a number is a power of two is true in one way only
pub power_in_one_way : (n : ℕ) → IsProp (IsPowerOfTwo n)
power_in_one_way n x y =
    let P : ℕ → Type 0 = λ k. (q : n ≡ 2 ^ k) → x ≡ (k, q) in
    let one : IsProp (n ≡ 2 ^ x.0) = hlevel props in
    subst P (exponents_equal x.0 y.0 (sym x.1 ∙ y.1)) (λ q i. (x.0, one x.1 q i)) y.1
