-- The stock of the plain referee, and what it pays for an answered question. A plain referee is its number.
use Rattle.std.specs.Prelude.{◌≡◌, ℕ, ◌+◌}
use Rattle.referees.specs.declared.plain.Plain.{Plain}

abbrev pub plain_stock : Plain → ℕ
plain_stock number = number

-- an answered question lowers its number by one
abbrev pub FallsByOne : Plain → Plain → Type 0
FallsByOne old new = old ≡ new + 1
