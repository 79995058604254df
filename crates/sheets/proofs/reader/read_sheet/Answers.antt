use Rattle.std.proofs.Common.{rules}
use Rattle.sheets.specs.Readings.{Answers}
use Rattle.sheets.proofs.Decisions.{reader_law}
use Rattle.sheets.proofs.reader.read_sheet.Goals as goal

pub returns-clause-law : goal.returns-clause-law
returns-clause-law g c =
    let answers : Answers g.T.Ordered.before g.T.SheetElement.format c.args.bytes.now c.args.list.now c.read_list.new.list c.args.seat c.with_seat.result = search rules in
    reader_law g.T.Ordered.before _ g.met.T.Ordered.law g.met.T.SheetElement.law _ _ _ c.args.seat _ answers
