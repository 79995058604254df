use Rattle.std.proofs.Common.{length}
use Rattle.cases.proofs.group_cases.+play.Given as goal

-- each round uses up one of those that there is room for
abbrev pub decreases-play : goal.decreases-play
decreases-play g l = length l.rounds.now
