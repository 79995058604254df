use Rattle.rankunit.specs.Elements.Delays.{delay_before, delay_zero}
use Rattle.rankunit_c.specs.Measures.{delay_place, lowest, highest}
use Rattle.rankunit_c.proofs.DeclaredParts.{opens_for_parts, lawful_for_parts}
use Rattle.rankunit_c.proofs.measure.open.Goals as goal

pub returns-clause-opens : goal.returns-clause-opens
returns-clause-opens c =
    let p = c.args.parts.now in
    opens_for_parts p.number p.each c.declared-lengths.result c.min-seats.result p.delays.now c.declared-lengths.ensures c.min-seats.ensures p.enough
    lowest highest lowest highest c.args.rank c.open.result c.open.ensures.opens

pub returns-clause-lawful : goal.returns-clause-lawful
returns-clause-lawful c =
    let p = c.args.parts.now in
    lawful_for_parts p.number p.each c.declared-lengths.result c.min-seats.result p.delays.now c.declared-lengths.ensures c.min-seats.ensures p.enough
    lowest highest lowest highest c.args.rank c.open.result c.open.ensures.opens delay_before delay_zero delay_place c.open.ensures.lawful
