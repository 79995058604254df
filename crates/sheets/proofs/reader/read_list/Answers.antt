use Rattle.std.proofs.Common.{length, Some, None, sym, ◌∙◌, refl, rules, arith}
use Rattle.std.proofs.lemmas.Result.{err_from_is_err_and}
use Rattle.sheets.specs.Layouts.{Bytes}
use Rattle.sheets.proofs.Bodies.{elements_in-packed}
use Rattle.sheets.proofs.HeaderPasses.{passes}
use Rattle.sheets.proofs.Decisions.{the_list, fall_found, header_refuses, acceptable}
use Rattle.sheets.proofs.reader.read_list.Goals as goal

pub returns-in_err-body : goal.returns-in_err-body
returns-in_err-body g c =
    let b : Bytes c.args.bytes.now = λ i. omega (arith, c.type_inv.bytes i) in
    let p = err_from_is_err_and c.from_residual.result c.from_residual.ensures.1 in
    rw (p.1, p.2)
    (header_refuses g.T.Ordered.before g.T.SheetElement.format g.met.T.Ordered.law g.met.T.SheetElement.law c.args.bytes.now _ b _ c.in_err-body.ensures.refused, refl {a = c.args.list.now})

pub returns : goal.returns
returns g c =
    let before = g.T.Ordered.before in
    let f = g.T.SheetElement.format in
    let order = g.met.T.Ordered.law in
    let law = g.met.T.SheetElement.law in
    let bytes = c.args.bytes.now in
    let b : Bytes bytes = λ i. omega (arith, c.type_inv.bytes i) in
    let pass = c.in_ok-body.ensures.passes in
    let l = the_list before f order law bytes b (passes f bytes pass).whole in
    let body = l.1 ∙ sym c.in_ok-body.ensures.body in (
      search rules,
      (
        l.0,
        acceptable before f order law bytes (length c.args.list.now) b pass l.0 l.1 (c.in_default.ensures l.0 body) (search rules),
        c.len-2.ensures ∙ elements_in-packed f law.fixed law.some l.0 _ body,
        c.fill.ensures l.0 body,
      ),
    )

-- the fall that was looked for is that of the list in the body
pub returns-in-Some : goal.returns-in-Some
returns-in-Some g c =
    let bytes = c.args.bytes.now in
    let b : Bytes bytes = λ i. omega (arith, c.type_inv.bytes i) in
    let found = fall_found g.T.Ordered.before g.T.SheetElement.format g.met.T.Ordered.law g.met.T.SheetElement.law bytes (length c.args.list.now) b
    (Some c.in-Some.number) (λ xs e. c.in-Some.ensures xs (e ∙ sym c.in_ok-body.ensures.body)) in
    ((Some c.in-Some.number, found, search rules), refl {a = c.args.list.now})

pub returns-then-list-len : goal.returns-then-list-len
returns-then-list-len g c =
    let bytes = c.args.bytes.now in
    let b : Bytes bytes = λ i. omega (arith, c.type_inv.bytes i) in
    let found = fall_found g.T.Ordered.before g.T.SheetElement.format g.met.T.Ordered.law g.met.T.SheetElement.law bytes (length c.args.list.now) b None
    (λ xs e. c.in_default.ensures xs (e ∙ sym c.in_ok-body.ensures.body)) in
    ((None, found, search rules), refl {a = c.args.list.now})
