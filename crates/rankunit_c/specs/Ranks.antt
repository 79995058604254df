-- What a call for a rank comes to, as numbers.
use Rattle.std.specs.Prelude.{ℕ, Ok, Err, Result}
use Rattle.rankunit.specs.Faults.RefusalNumbers.{number_of}
use Rattle.rankunit.specs.Faults.FaultInfos.{run_info}
use Rattle.rankunit.specs.Faults.declared.fault.RunFault.{RunFault}
use Rattle.rankunit_c.specs.declared.rank.Rank.{Rank}

-- what such a call answers, as numbers: the rank, or the refusal
abbrev pub rank_of : Result ℕ RunFault → Rank
rank_of (Ok rank) = record { refusal = 0; rank = rank }
rank_of (Err fault) = record { refusal = number_of (run_info fault).refusal; rank = 0 }
