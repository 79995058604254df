use Rattle.std.proofs.Common.{rules, Ok, Err, List, sym, refl, subst}
use Rattle.rankunit.specs.Elements.Delays.{delay_before}
use Rattle.rankunit.specs.Elements.declared.delay.Delay.{Delay}
use Rattle.rankunit_c.specs.GroupRounds.{ReportsFrom}
use Rattle.rankunit_c.specs.Measures.{delay_place}
use Rattle.rankunit_c.proofs.measure.+report_from.Goals as goal

pub returns-in_err-report_one : goal.returns-in_err-report_one
returns-in_err-report_one t c =
    subst (λ (lists : List (List Delay)). ReportsFrom delay_before delay_place c.args.number lists c.args.run.now c.from_residual.result c.report_one.new.run)
    (sym c.in-Some.ensures.some)
    (c.report_one.new.run, Err c.in_err-report_one.field-0.0, c.in_err-report_one.ensures, (search rules, refl))

pub returns : goal.returns
returns t c =
    subst (λ (lists : List (List Delay)). ReportsFrom delay_before delay_place c.args.number lists c.args.run.now c.report_from.result c.report_from.new.run)
    (sym c.in-Some.ensures.some)
    (c.report_one.new.run, Ok c.in_ok-report_one.field-0, c.in_ok-report_one.ensures, c.report_from.ensures)
