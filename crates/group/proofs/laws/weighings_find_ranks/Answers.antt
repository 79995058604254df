use Rattle.elements.specs.Orders.{IsOrder}
use Rattle.group.proofs.NeverEmpty.{range_is_never_empty}
use Rattle.group.proofs.SearchFinds.{weighing_finds}
use Rattle.group.proofs.laws.weighings_find_ranks.Goals as goal

pub returns-clause-finds : goal.returns-clause-finds
returns-clause-finds g c =
    let order : IsOrder g.T.Ordered.before = g.met.T.Ordered.law in
    weighing_finds g.T.Placed.place order g.met.T.Placed.law.agrees

pub returns-clause-never_empty : goal.returns-clause-never_empty
returns-clause-never_empty g c = range_is_never_empty
