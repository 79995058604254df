use Rattle.std.proofs.Common.{rules}
use Rattle.referees.proofs.Tallies.{played_from}
use Rattle.referees.proofs.pile.play_on_spare.Goals as goal

pub returns : goal.returns
returns g c = played_from g.T.Ordered.before _ _ _ _ _ _ (search rules) c.play.ensures.played
