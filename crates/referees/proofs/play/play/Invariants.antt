use Rattle.std.proofs.Common.{◌≡◌, ◌-◌, min}
use Rattle.referees.proofs.Turns.{PlayedTo}
use Rattle.referees.specs.Plays.{SpendsEach}
use Rattle.referees.proofs.play.play.Given as goal

-- the lines before the index are played, each at the cost of one question while the stock lasted
abbrev pub invariant-loop-line : goal.invariant-loop-line
invariant-loop-line g l = record {
  played : PlayedTo g.T.Ordered.before (g.R.Stocked.stock l.initial.referee) l.line-index l.initial.lines l.lines;
  answered : l.answered ≡ min (g.R.Stocked.stock l.initial.referee) l.line-index;
  paid : g.R.Stocked.stock l.referee ≡ g.R.Stocked.stock l.initial.referee - l.line-index;
  spends : SpendsEach g.R.Referee.spends l.initial.referee l.answered l.referee;
}
