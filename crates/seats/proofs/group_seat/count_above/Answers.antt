use Rattle.std.proofs.Common.{leb, sym, rules}
use Rattle.std.proofs.lemmas.List.Sorted.{IsPartitionPoint-from_clause, IsPartitionedBy-leb}
use Rattle.seats.proofs.PlacesInOrder.{places_never_fall, above_from_point}
use Rattle.seats.proofs.group_seat.count_above.Goals as goal

pub returns-clause-count : goal.returns-clause-count
returns-clause-count g c =
    let place = g.T.Placed.place in
    let xs = c.args.list.now in
    let m = c.args.m in
    let found = c.partition_point in
    let up = places_never_fall g.T.Ordered.before place g.met.T.Placed.law.agrees xs c.requires in
    let point = IsPartitionPoint-from_clause (λ x. leb (place x) m) xs found.result found.ensures.partitioned
    (IsPartitionedBy-leb place xs m up) (λ a r q k. search rules) in
    sym (above_from_point place m xs found.result found.ensures.bound point)
