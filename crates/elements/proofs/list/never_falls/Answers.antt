use Rattle.std.proofs.Common.{not, arith}
use Rattle.std.proofs.lemmas.Bool.{not-true, and_parts}
use Rattle.elements.proofs.FirstFalls.{none_below_next, never_falls}
use Rattle.elements.proofs.list.never_falls.Goals as goal

pub loop-i-preserved : goal.loop-i-preserved
loop-i-preserved g c = λ so_far xs read.
    let parts = and_parts c.loop-i.in_order (not c.is_before.result) so_far in
    none_below_next g.T.Ordered.before xs c.loop-i.i (omega arith) (c.loop-i.invariant parts.0 xs read) c.at.result c.at-in-loop-i.result
    (λ d. read.at _ _ d (omega arith) c.at.ensures) (λ d. read.at _ _ d (omega arith) c.at-in-loop-i.ensures)
    (let before = not-true c.is_before.result parts.1 in cc)

pub returns : goal.returns
returns g c so_far xs read =
    never_falls g.T.Ordered.before xs g.met.T.Ordered.law c.loop-i.i (omega (arith, read.long)) (c.loop-i.invariant so_far xs read)
