use Rattle.rankunit_c.specs.PartLists.{lists_of}
use Rattle.rankunit_c.proofs.GroupRuns.{Stands, group_of}
use Rattle.rankunit_c.proofs.measure.find.Given as goal

-- between rounds the run stands as honest seats leave it
abbrev pub invariant-loop-next : goal.invariant-loop-next
invariant-loop-next l = Stands (group_of (lists_of l.parts) l.rank (l.initial.run, l.initial.slip)) l.run l.referee

-- and each round takes a question from the referee's stock
abbrev pub decreases-loop-next : goal.decreases-loop-next
decreases-loop-next l = l.referee
