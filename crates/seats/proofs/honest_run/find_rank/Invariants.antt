use Rattle.pair.specs.PairCalls.{progress_of}
use Rattle.pair.specs.Bisection.{by_side}
use Rattle.referees.specs.Plays.{SpendsEach}
use Rattle.seats.proofs.HonestRunStands.{Stands}
use Rattle.seats.proofs.honest_run.find_rank.Given as goal

-- between rounds the play stands as honest seats leave it, and the referee was asked for each verdict
abbrev pub invariant-loop-stage : goal.invariant-loop-stage
invariant-loop-stage g l = record {
  stands : Stands g.T.Ordered.before g.T.Ordered.sample (by_side l.a l.b) l.rank l.initial.stage l.stage (g.R.Stocked.stock l.initial.referee)
      (g.R.Stocked.stock l.referee) l.made l.initial.log l.log;
  asked : SpendsEach g.R.Referee.spends l.initial.referee l.made l.referee;
}

-- and its window gets smaller
abbrev pub decreases-loop-stage : goal.decreases-loop-stage
decreases-loop-stage g l = (progress_of l.stage).window.size
