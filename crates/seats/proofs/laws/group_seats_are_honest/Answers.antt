use Rattle.seats.proofs.GroupHonest.{group_seats_are_honest}
use Rattle.seats.proofs.laws.group_seats_are_honest.Goals as goal

pub returns : goal.returns
returns g c = group_seats_are_honest g.T.Ordered.before g.T.Ordered.sample g.T.Placed.place g.T.Placed.LOWEST g.T.Placed.HIGHEST
