use Rattle.pair.proofs.WindowPath.{windows_follow_verdicts}
use Rattle.pair.proofs.laws.windows_follow_verdicts.Goals as goal

pub returns : goal.returns
returns c = windows_follow_verdicts
