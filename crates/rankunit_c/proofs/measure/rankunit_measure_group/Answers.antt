use Rattle.std.proofs.Common.{rules, Ok, arith}
use Rattle.rankunit.specs.Elements.Delays.{delay_before}
use Rattle.rankunit_c.specs.Measures.{delay_place, lowest, highest, most_rounds}
use Rattle.rankunit_c.specs.PartLists.{lists_of}
use Rattle.rankunit_c.proofs.GroupRuns.{few_rounds}
use Rattle.rankunit_c.proofs.measure.rankunit_measure_group.Goals as goal

pub returns-in-Ok : goal.returns-in-Ok
returns-in-Ok c =
    let few = few_rounds delay_before delay_place lowest highest (lists_of c.equal.result) c.args.rank most_rounds (omega arith) c.in-Ok.finished
    lowest highest c.in-Ok.ensures in
    record {
      came = Ok c.in-Ok.finished;
      plays = rw c.equal.ensures at c.in-Ok.ensures;
      numbers = search rules;
      few = search (rules, few);
    }
