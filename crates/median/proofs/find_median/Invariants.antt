use Rattle.median.proofs.find_median.Given as goal

-- each verdict uses up a question of the referee
abbrev pub decreases-loop-stage : goal.decreases-loop-stage
decreases-loop-stage l = l.referee
