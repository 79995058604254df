use Rattle.elements.specs.Orders.{IsOrder}
use Rattle.pair.proofs.TwoBounds.{bounds_decide}
use Rattle.pair.proofs.ExplainedReports.{explained_if_consistent}
use Rattle.pair.proofs.FinishedExchanges.{finished_is_bisection}
use Rattle.pair.proofs.Nearest.{nearest_places_decide, honest_is_accepted}
use Rattle.pair.proofs.laws.reports_have_lists.Goals as goal

pub returns : goal.returns
returns g c =
    let before = g.T.Ordered.before in
    let o : IsOrder before = g.met.T.Ordered.law in
    record {
      explained = explained_if_consistent o g.T.Ordered.sample;
      nearest = nearest_places_decide o;
      honest = honest_is_accepted o;
      bounds = bounds_decide o;
      finished = finished_is_bisection o g.T.Ordered.sample;
    }
