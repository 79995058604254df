-- The verdicts of a run as the bits of one number.
use Rattle.std.specs.Prelude.{◌≡◌, ℕ, ◌+◌, ◌*◌, ◌^◌, ◌<◌, List, [], ◌∷◌, length, Some, slice_get}
use Rattle.std.specs.Int.{bit_at}
use Rattle.rankunit.specs.Referees.Verdicts.{verdict_number}
use Rattle.rankunit.specs.Referees.declared.verdict.PairVerdict.{PairVerdict}

-- the first verdict in the lowest bit
abbrev pub bits : List PairVerdict → ℕ
bits [] = 0
bits (verdict ∷ later) = verdict_number verdict + 2 * bits later

-- the number tells each verdict: it stands in the bit of its index, and no bit after the last one is set
pub record TellsEach (verdicts : List PairVerdict) (number : ℕ) : Type 0 where
  pub each : (i : ℕ) (verdict : PairVerdict) → slice_get verdicts i ≡ Some verdict → bit_at number i ≡ verdict_number verdict
  pub no_more : number < 2 ^ length verdicts
