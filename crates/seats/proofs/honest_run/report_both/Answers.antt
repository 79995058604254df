-- A refused report of A is the answer of both, and B's seat reports nothing.
use Rattle.std.proofs.Common.{rules, Err, refl}
use Rattle.pair.specs.PairCalls.{progress_of_run}
use Rattle.seats.proofs.honest_run.report_both.Goals as goal

pub returns-in_err-report_one : goal.returns-in_err-report_one
returns-in_err-report_one g c =
    (progress_of_run c.report_one.new.run, Err c.in_err-report_one.field-0.0, c.in_err-report_one.ensures, (search rules, refl))
