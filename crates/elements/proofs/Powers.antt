-- Powers of two.
use Rattle.std.proofs.Common.{ℕ, zero, suc, ◌^◌, ◌<◌, arith}

-- a number is less than 2 to the power of it
pub less_than_power : (n : ℕ) → n < 2 ^ n
less_than_power zero = omega arith
less_than_power (suc n) = omega (arith, less_than_power n)
