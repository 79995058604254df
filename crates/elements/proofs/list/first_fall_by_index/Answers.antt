use Rattle.std.proofs.Common.{arith}
use Rattle.elements.proofs.FirstFalls.{none_below_next, never_falls}
use Rattle.elements.proofs.list.first_fall_by_index.Goals as goal

pub loop-i-preserved : goal.loop-i-preserved
loop-i-preserved g c = λ xs read.
    none_below_next g.T.Ordered.before xs c.loop-i.i (omega arith) (c.loop-i.invariant xs read) c.at.result c.at-in-loop-i.result
    (λ d. read.at _ _ d (omega arith) c.at.ensures) (λ d. read.at _ _ d (omega arith) c.at-in-loop-i.ensures) (cc)

pub returns : goal.returns
returns g c = λ xs read. never_falls g.T.Ordered.before xs g.met.T.Ordered.law c.loop-i.i (omega (arith, read.long)) (c.loop-i.invariant xs read)
