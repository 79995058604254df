use Rattle.std.proofs.Common.{◌≡◌, List, true}
use Rattle.elements.specs.Orders.{IsReadByIndex}
use Rattle.elements.proofs.FirstFalls.{NoFallBelow}
use Rattle.elements.proofs.list.never_falls.Given as goal

-- while the list is in order, no element so far is before its predecessor
abbrev pub invariant-loop-i : goal.invariant-loop-i
invariant-loop-i g l =
    l.in_order ≡ true → (xs : List g.row.T.Denot) → IsReadByIndex (λ i x. g.F.Fn.post l.at (i, tt) x) l.len xs → NoFallBelow g.T.Ordered.before xs l.i
