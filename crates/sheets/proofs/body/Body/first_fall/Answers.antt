use Rattle.std.proofs.Common.{rules, ◌∙◌, sym}
use Rattle.sheets.proofs.Bodies.{elements_in-packed}
use Rattle.sheets.proofs.body.Body.first_fall.Goals as goal

pub returns : goal.returns
returns g c xs e =
    let law = g.met.T.SheetElement.law in
    c.first_fall_by_index.ensures xs (record {
      long = sym (elements_in-packed g.T.SheetElement.format law.fixed law.some xs _ e) ∙ sym c.len.ensures;
      at = λ i x d h p. search rules;
    })
