use Rattle.std.proofs.Common.{arith}
use Rattle.std.proofs.lemmas.Grind.{common_steps}
use Rattle.seats.proofs.PlacesInOrder.{places_never_fall, within_by_ends}
use Rattle.seats.proofs.group_seat.is_within.Goals as goal

pub returns-then-is_inside : goal.returns-then-is_inside
returns-then-is_inside g c =
    let place = g.T.Placed.place in
    let xs = c.args.list.now in
    let range = c.args.range in
    let up = places_never_fall g.T.Ordered.before place g.met.T.Placed.law.agrees xs c.requires in
    let first = c.is_inside.ensures.0 c.if-is_inside.true in (
      (λ inside.
          let last = c.is_inside-then-is_inside.ensures.0 inside in
          within_by_ends place range.from range.to xs up c.index-list-0.result c.index-list-list.result
          c.index-list-0.is c.index-list-list.is
          (omega (arith, c.place_number-first.ensures)) (omega (arith, c.place_number-last.ensures))),
      (λ within. grind (arith, common_steps)),
    )
