-- How long a list may be, and how a number is held in 32 bits.
use Rattle.std.specs.Prelude.{ℕ, ◌-◌, ◌^◌, min}

-- a list has at most so many elements, on a sheet, in a seat's hands, or as it is declared
abbrev pub longest_list : ℕ
longest_list = 65536

-- a number in 32 bits: itself, or the largest that fits
abbrev pub saturated : ℕ → ℕ
saturated n = min n (2 ^ 32 - 1)
