use Rattle.std.proofs.Common.{◌∙◌, sym}
use Rattle.sheets.proofs.Bodies.{decoded_at}
use Rattle.sheets.proofs.body.Body.element.Goals as goal

pub returns : goal.returns
returns g c xs d e =
    let law = g.met.T.SheetElement.law in
    decoded_at g.T.SheetElement.format law.fixed law.some law.distinct xs _ _ c.args.i d _ _ e c.requires c.part.ensures c.decode.ensures ∙ sym c.unwrap_or.ensures
