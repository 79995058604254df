use Rattle.std.proofs.Common.{refl, arith}
use Rattle.group.proofs.Reported.{takes_report}
use Rattle.group.proofs.group_seats.GroupSeats.report.Goals as goal

pub returns : goal.returns
returns c =
    let takes = rw c.table_seat.ensures.value at c.report.ensures in
    takes_report c.args.range c.args.number c.args.counts c.args.self.now _ c.report.new.self c.report.result (omega arith) (omega arith) refl refl refl takes
