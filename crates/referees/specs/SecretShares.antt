-- A number in two shares by a word.
use Rattle.std.specs.Prelude.{ℕ, ◌+◌, ◌-◌, ◌%◌, ◌^◌}
use Rattle.referees.specs.declared.shares.Shares.{Shares}

-- the word, and what has to be added to it modulo 2^64 to reach the number
abbrev pub shares_of : ℕ → ℕ → Shares
shares_of number word = record { word = word; difference = (number + (2 ^ 64 - word)) % 2 ^ 64 }

abbrev pub reconstructed : Shares → ℕ
reconstructed shares = (shares.word + shares.difference) % 2 ^ 64
