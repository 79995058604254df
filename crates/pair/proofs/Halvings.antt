-- Powers of two that are halved, and the row's length.
use Rattle.std.proofs.Common.{◌≡◌, ℕ, zero, suc, ◌+◌, ◌*◌, ◌/◌, ◌^◌, ◌<◌, ◌≤◌, max, refl, ap, ◌∙◌, inl, inr, arith, pow_pos}
use Rattle.std.specs.Int.{IsPowerOfTwo}
use Rattle.std.proofs.Math.Pow.{pow_mono}
use Rattle.std.proofs.lemmas.Bool.{cases_lt}
use Rattle.pair.specs.Rows.{halvings, row_length}
use Rattle.pair.specs.Bisection.{half}
use Rattle.pair.proofs.Logarithms.{rank_fits_row, halvings_are_log, half_of_power}

-- a power of two that is at least k, and whose half is not, is the length of a row for rank k
pub next_power_is_row_length : (k p : ℕ) → IsPowerOfTwo p → k ≤ p → p / 2 < max 1 k → p ≡ row_length k
next_power_is_row_length k p power above next =
    let least : halvings k ≤ power.0 = (halvings_are_log k).least power.0 (rw (← power.1) above) in
    elim (cases_lt (halvings k) power.0) [
      | inr same ↦ power.1 ∙ ap (λ (j : ℕ). 2 ^ j) (omega arith)
      | inl more ↦
          let twice : 2 ^ suc (halvings k) ≤ 2 ^ power.0 = pow_mono more in
          let reach : k ≤ 2 ^ halvings k = rank_fits_row k in
          let some : 0 < 2 ^ halvings k = pow_pos (halvings k) in
          let double : 2 ^ suc (halvings k) ≡ 2 * 2 ^ halvings k = omega arith in
          let is : p ≡ 2 ^ power.0 = power.1 in
          absurd (omega arith)
    ]

-- a row for a rank of 32 bits has at most 2^32 entries
pub row_length_fits : (k : ℕ) → k < 2 ^ 32 → row_length k ≤ 2 ^ 32
row_length_fits k small = pow_mono ((halvings_are_log k).least 32 (omega arith))

-- half a power of two, but at least 1, is a power of two
pub half_is_power : (n : ℕ) → IsPowerOfTwo n → IsPowerOfTwo (half n)
half_is_power n power = go power.0 power.1
  where
    go : (j : ℕ) → n ≡ 2 ^ j → IsPowerOfTwo (half n)
    go zero is = (0, rw is refl)
    go (suc j) is = (j, rw is (half_of_power j))

-- the size of a window, in two both_halves, or 1
pub both_halves : (n : ℕ) → IsPowerOfTwo n → n / 2 + half n ≡ n
both_halves n power = go power.0 power.1
  where
    go : (j : ℕ) → n ≡ 2 ^ j → n / 2 + half n ≡ n
    go zero is = rw is refl
    go (suc j) is = let double : 2 ^ suc j ≡ 2 * 2 ^ j = omega arith in omega (arith, rw (← is) at (half_of_power j))
