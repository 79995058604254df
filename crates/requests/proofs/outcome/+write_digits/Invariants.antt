use Rattle.std.proofs.Common.{length}
use Rattle.requests.proofs.outcome.+write_digits.Given as goal

-- each call writes one verdict and leaves the others
abbrev pub decreases-write_digits : goal.decreases-write_digits
decreases-write_digits g l = length l.verdicts.now
