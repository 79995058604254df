-- What a slip shows.
use Rattle.std.specs.Prelude.{Bool}
use Rattle.runs.specs.declared.slip.Slip.{Slip}

-- whether it may be let go
abbrev pub spent : {K T : Type 0} → Slip K T → Bool
spent slip = slip.spent
