-- What the opening promises of every history, from the laws of the type's order and of its places.
use Rattle.group.proofs.HistoryKeepsLaw.{histories_keep_law, histories_tell_the_same}
use Rattle.group.proofs.opening.open.Goals as goal

pub returns-clause-lawful : goal.returns-clause-lawful
returns-clause-lawful g c =
    histories_keep_law g.T.Ordered.before g.T.Ordered.sample g.T.Placed.place g.T.Placed.LOWEST g.T.Placed.HIGHEST g.met.T.Ordered.law
    g.met.T.Placed.law c.args.lengths.now c.args.lo c.args.hi c.args.rank c.start.result c.start.ensures

pub returns-clause-tells : goal.returns-clause-tells
returns-clause-tells g c =
    histories_tell_the_same g.T.Ordered.before g.T.Ordered.sample g.T.Placed.place g.T.Placed.LOWEST g.T.Placed.HIGHEST
    g.met.T.Ordered.law g.met.T.Placed.law c.args.lengths.now c.args.lo c.args.hi c.args.rank c.start.result c.start.ensures
