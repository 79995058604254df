use Rattle.seats.proofs.PairHonest.{pair_seats_are_honest}
use Rattle.seats.proofs.laws.pair_seats_are_honest.Goals as goal

pub returns : goal.returns
returns g c = pair_seats_are_honest g.T.Ordered.before g.T.Ordered.sample
