use Rattle.std.proofs.Common.{length}
use Rattle.rankunit_c.proofs.outcome.+bits.Given as goal

-- each call takes one verdict and leaves the others
abbrev pub decreases-bits : goal.decreases-bits
decreases-bits l = length l.verdicts.now
