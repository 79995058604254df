use Rattle.std.proofs.Common.{List}
use Rattle.elements.specs.Orders.{IsReadByIndex}
use Rattle.elements.proofs.FirstFalls.{NoFallBelow}
use Rattle.elements.proofs.list.first_fall_by_index.Given as goal

-- no element so far is before its predecessor
abbrev pub invariant-loop-i : goal.invariant-loop-i
invariant-loop-i g l =
    (xs : List g.row.T.Denot) → IsReadByIndex (λ i x. g.F.Fn.post l.at (i, tt) x) l.len xs → NoFallBelow g.T.Ordered.before xs l.i
