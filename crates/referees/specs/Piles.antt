-- The stock of the piles that questions are played against.
use Rattle.std.specs.Prelude.{List, ℕ, ◌+◌, ◌/◌, min, length}
use Rattle.referees.specs.declared.pile.PileNumbers.{PileNumbers}

-- a quota over the whole; under it a quota over a plain referee, and a strip, one as the other's spare
abbrev pub pile_stock : PileNumbers → List ℕ → ℕ
pile_stock n words = min n.whole (min n.part n.plain + length words / 2)
