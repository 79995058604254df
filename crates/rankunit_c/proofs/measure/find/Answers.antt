-- The run stands between rounds as honest seats leave it, and comes to what is promised at its end.
use Rattle.std.proofs.Common.{rules, ℕ, Some, None, Ok, Err, Option, sym, refl, subst, arith}
use Rattle.rankunit.specs.Elements.Delays.{delay_before}
use Rattle.rankunit.specs.Faults.declared.refusal.Refusal.{Refusal}
use Rattle.rankunit_c.specs.Measures.{delay_place, lowest, highest, most_rounds, ComesTo}
use Rattle.rankunit_c.specs.PartLists.{lists_of}
use Rattle.rankunit_c.proofs.DeclaredParts.{few_parts}
use Rattle.rankunit_c.proofs.GroupRuns.{Stands, group_of, stands_at_start, round_refused, stands_after, finds_after}
use Rattle.rankunit_c.proofs.measure.find.Goals as goal

pub loop-next-init : goal.loop-next-init
loop-next-init c =
    let g = group_of (lists_of c.args.parts.now) c.args.rank (c.in_ok-run.run', c.in_ok-run.slip) in
    subst (λ (stock : ℕ). Stands g g.opened.0 stock) (sym c.new-referee.ensures) (stands_at_start g)

pub round-requires : goal.round-requires
round-requires c =
    let p = c.args.parts.now in
    omega (arith, few_parts p.number p.each p.delays.now p.enough lowest highest lowest highest c.args.rank c.in_ok-run.ensures.opens.0)

pub loop-next-preserved : goal.loop-next-preserved
loop-next-preserved c =
    let g = group_of (lists_of c.args.parts.now) c.args.rank (c.in_ok-run.run', c.in_ok-run.slip) in
    let came = c.in-Ok-Comparing in
    stands_after g c.in_ok-run.ensures.lawful c.loop-next.invariant came.field-0 came.next (search rules) came.ensures.plays c.round.new.referee
    came.ensures.asks.0

pub returns-in-Ok-Closing : goal.returns-in-Ok-Closing
returns-in-Ok-Closing c =
    let g = group_of (lists_of c.args.parts.now) c.args.rank (c.in_ok-run.run', c.in_ok-run.slip) in
    let came = c.in-Ok-Closing in
    let finds = finds_after g c.in_ok-run.ensures.lawful c.loop-next.invariant came.field-0 came.last (search rules) came.ensures.plays
    c.finish.result c.finish.ensures in
    subst (λ (opening : Option Refusal). ComesTo delay_before delay_place lowest highest g.lists g.k opening (Ok c.finish.result))
    (sym c.in_ok-run.ensures.opens.0) (None, finds.0, (c.finish.result, refl, finds.1))

pub returns-in-Err : goal.returns-in-Err
returns-in-Err c =
    let g = group_of (lists_of c.args.parts.now) c.args.rank (c.in_ok-run.run', c.in_ok-run.slip) in
    let refused = c.in-Err.field-0 in
    let first = round_refused g c.in_ok-run.ensures.lawful c.loop-next.invariant most_rounds (omega arith) (omega arith) refused
    c.in-Err.ensures.plays in
    subst (λ (opening : Option Refusal). ComesTo delay_before delay_place lowest highest g.lists g.k opening (Err refused.fault))
    (sym c.in_ok-run.ensures.opens.0) (Some refused.fault, first, refl)
