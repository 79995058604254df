use Rattle.std.proofs.Common.{rules, arith}
use Rattle.sheets.specs.Levels.{bytes_of_read}
use Rattle.sheets.proofs.sheet_element.LinkLevelSheetElement.decode.Goals as goal

pub returns : goal.returns
returns c =
    bytes_of_read c.args.bytes.now c.level_of.result.level c.level_of.result.link (search rules) (λ i. omega (arith, c.type_inv.bytes i)) (search rules)
    (search rules)
