-- What an answer that the law gives to a question about the reports of a round shows of the trace before it.
use Rattle.std.proofs.Common.{◌≡◌, ℕ, ◌<◌, None, Ok, Err}
use Rattle.faults.specs.declared.fault.RunFault.TheVariants.{Own}
use Rattle.faults.specs.declared.refusal.Refusal.TheVariants.{ReportMissing, StockEmpty}
use Rattle.runs.specs.HistoryLaw.{Asked, missing, empty, answered, AllReported, SomeMissing}
use Rattle.runs.specs.Protocols.{Protocol}
use Rattle.runs.specs.Traces.{Trace}

module _ {S E V T R : Type 0} (p : Protocol S E V T R) {X : Type 0} {past : Trace S E V T} {stock : ℕ} where
  -- where it is accepted, all have reported, and there is a stock
  pub accepted_shows : {x : X} → Asked p stock {X = X} (Ok x) past → AllReported p past × (0 < stock)
  accepted_shows (answered x all some) = (all, some)

  -- where it is refused 15, a report is missing
  pub missing_shows : Asked p stock {X = X} (Err (Own ReportMissing None)) past → SomeMissing p past
  missing_shows (missing some) = some

  -- where it is refused 16, all have reported, and the stock is 0
  pub empty_shows : Asked p stock {X = X} (Err (Own StockEmpty None)) past → AllReported p past × (stock ≡ 0)
  empty_shows (empty all none) = (all, none)
