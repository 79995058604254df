use Rattle.rankunit_c.proofs.measure.+report_from.Given as goal

-- each call leaves one seat less
abbrev pub decreases-report_from : goal.decreases-report_from
decreases-report_from l = l.parts.now.number
