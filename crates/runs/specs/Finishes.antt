-- What a finished run hands out, as contracts see it.
use Rattle.std.specs.Prelude.{ℕ}

pub record Outcome (T : Type 0) : Type 0 where
  pub result : T
  pub count : ℕ
