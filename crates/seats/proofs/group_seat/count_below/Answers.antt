use Rattle.std.proofs.Common.{nat_lt, sym, rules}
use Rattle.std.proofs.lemmas.List.Sorted.{IsPartitionPoint-from_clause, IsPartitionedBy-ltb}
use Rattle.seats.proofs.PlacesInOrder.{places_never_fall, below_to_point}
use Rattle.seats.proofs.group_seat.count_below.Goals as goal

pub returns-clause-count : goal.returns-clause-count
returns-clause-count g c =
    let place = g.T.Placed.place in
    let xs = c.args.list.now in
    let m = c.args.m in
    let found = c.partition_point in
    let up = places_never_fall g.T.Ordered.before place g.met.T.Placed.law.agrees xs c.requires in
    let point = IsPartitionPoint-from_clause (λ x. nat_lt (place x) m) xs found.result found.ensures.partitioned
    (IsPartitionedBy-ltb place xs m up) (λ a r q k. search rules) in
    sym (below_to_point place m xs found.result found.ensures.bound point)
