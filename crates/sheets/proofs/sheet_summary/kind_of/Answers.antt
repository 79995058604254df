use Rattle.std.proofs.Common.{rules}
use Rattle.sheets.proofs.ReadAs.{CallsItself, read_as}
use Rattle.sheets.proofs.sheet_summary.kind_of.Goals as goal

pub returns : goal.returns
returns c =
    let named : CallsItself c.args.bytes.now c.and_then.result = search rules in read_as c.args.bytes.now c.and_then.result _ named c.unwrap_or.ensures
