use Rattle.elements.specs.Orders.{IsOrder}
use Rattle.group.proofs.Explained.{explained_if_possible}
use Rattle.group.proofs.FinishedExchanges.{every_finished_is_search}
use Rattle.group.proofs.FiveRules.{five_rules_decide, honest_is_possible}
use Rattle.group.proofs.laws.counts_have_lists.Goals as goal

pub returns-clause-explained : goal.returns-clause-explained
returns-clause-explained g c = explained_if_possible g.T.Placed.place g.T.Placed.LOWEST g.T.Placed.HIGHEST g.met.T.Placed.law.complete

pub returns-clause-five_rules : goal.returns-clause-five_rules
returns-clause-five_rules g c = five_rules_decide g.T.Placed.place g.T.Placed.LOWEST g.T.Placed.HIGHEST g.met.T.Placed.law.complete

pub returns-clause-honest : goal.returns-clause-honest
returns-clause-honest g c = honest_is_possible g.T.Placed.place g.T.Placed.LOWEST g.T.Placed.HIGHEST g.met.T.Placed.law.complete

pub returns-clause-finished : goal.returns-clause-finished
returns-clause-finished g c =
    let order : IsOrder g.T.Ordered.before = g.met.T.Ordered.law in
    every_finished_is_search g.T.Placed.place order g.met.T.Placed.law.agrees g.T.Placed.LOWEST g.T.Placed.HIGHEST g.met.T.Placed.law.complete
