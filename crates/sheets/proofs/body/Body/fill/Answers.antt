use Rattle.std.proofs.Common.{◌∙◌, arith}
use Rattle.std.proofs.lemmas.List.{length-set}
use Rattle.sheets.proofs.Bodies.{elements_in-packed}
use Rattle.sheets.proofs.FilledSlices.{write_more, written}
use Rattle.sheets.proofs.body.Body.fill.Goals as goal

pub loop-i-preserved : goal.loop-i-preserved
loop-i-preserved g c =
    let law = g.met.T.SheetElement.law in (
      length-set c.loop-i.list c.loop-i.i c.element.result ∙ c.loop-i.invariant.0,
      λ xs e.
          let n = elements_in-packed g.T.SheetElement.format law.fixed law.some xs _ e in
          write_more xs c.args.list.now c.loop-i.list c.loop-i.i c.element.result (omega (arith, n)) (omega arith) (c.loop-i.invariant.1 xs e) (c.element.ensures xs _ e),
    )

pub returns : goal.returns
returns g c xs e =
    let law = g.met.T.SheetElement.law in
    let n = elements_in-packed g.T.SheetElement.format law.fixed law.some xs _ e in
    written xs c.args.list.now c.loop-i.list c.loop-i.i (omega (arith, n)) (c.loop-i.invariant.1 xs e)
