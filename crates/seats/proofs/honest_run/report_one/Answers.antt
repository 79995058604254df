-- A seat that gives an entry has it accepted or not, as the run answers.
use Rattle.std.proofs.Common.{◌≡◌, Bool, List, None, Some, Ok, Result, subst}
use Rattle.elements.specs.declared.entry.Entry.{Entry}
use Rattle.faults.specs.declared.fault.RunFault.{RunFault}
use Rattle.pair.specs.declared.side.Side.{Side}
use Rattle.pair.specs.PairCalls.{Reports, progress_of_run}
use Rattle.pair.specs.declared.progress.Progress.{Progress}
use Rattle.seats.specs.SeatReports.{PairReport, row_entry}
use Rattle.seats.specs.HonestRounds.{ReportsOne}
use Rattle.seats.proofs.honest_run.report_one.Goals as goal

-- a seat that gives an entry has a list that is not refused, and the entry is its row's
entry_reported : {T : Type 0} (before : T → T → Bool) (side : Side) (xs : List T) (old new : Progress T) (entry : Entry T)
    (answer : Result (Unit {0}) RunFault) → PairReport before side old.window xs (Ok entry) → Reports before side entry old answer new →
    ReportsOne before side xs old answer new
entry_reported before side xs old new entry answer (Some refusal, is, e) r = absurd cc
entry_reported {T = T} before side xs old new entry answer (None, is, e) r =
    let same : entry ≡ row_entry side old.window xs = cc in
    (None, is, subst (λ (given : Entry T). Reports before side given old answer new) same r)

pub returns : goal.returns
returns g c =
    entry_reported g.T.Ordered.before c.args.side c.args.list.now (progress_of_run c.args.run.now) (progress_of_run c.report.new.self) c.in_ok-entry.entry
    c.report.result c.in_ok-entry.ensures c.report.ensures.reports
