use Rattle.elements.specs.Orders.{IsOrder}
use Rattle.pair.specs.Bisection.{compared}
use Rattle.pair.specs.Rows.{halvings}
use Rattle.pair.proofs.Cuts.{bisection_finds_rank}
use Rattle.pair.proofs.Logarithms.{halvings_are_log, length-judged_verdicts}
use Rattle.pair.proofs.RebuiltVerdicts.{seats_rebuild}
use Rattle.pair.proofs.laws.bisections_find_ranks.Goals as goal

pub returns : goal.returns
returns g c =
    let before = g.T.Ordered.before in
    let o : IsOrder before = g.met.T.Ordered.law in
    record {
      finds = bisection_finds_rank o;
      verdicts = record {
        logarithm = halvings_are_log;
        as_many = λ k lists. length-judged_verdicts (compared before k lists) (λ side. 0) (halvings k);
      };
      rebuilt = seats_rebuild o;
    }
