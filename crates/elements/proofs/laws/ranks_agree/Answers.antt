use Rattle.elements.specs.Orders.{IsOrder}
use Rattle.elements.proofs.SortedLists.{in_order_never_falls, length-in_order, count-in_order}
use Rattle.elements.proofs.RankFacts.{ranked_counted, counted_ranked, some_ranked, ranked_unique, ranked_at, ranked_any_order}
use Rattle.elements.proofs.laws.ranks_agree.Goals as goal

pub returns : goal.returns
returns g c =
    let before = g.T.Ordered.before in
    let o : IsOrder before = g.met.T.Ordered.law in
    record {
      ordering = record {
        never_falls = in_order_never_falls o;
        same_length = length-in_order before;
        same_counts = λ xs test. count-in_order before test xs;
      };
      counting = record { counted = ranked_counted o; ranked = counted_ranked o };
      exists = some_ranked o;
      unique = ranked_unique o;
      at_index = ranked_at o;
      any_order = ranked_any_order o;
    }
