-- How the calls of a run answer that ask a referee.
use Rattle.std.specs.Prelude.{◌≡◌, ℕ, ◌+◌, Some, None, Ok, Err, Option, Result, ◌==◌}
use Rattle.faults.specs.RefusalOrder.{check, answered}
use Rattle.faults.specs.declared.fault.RunFault.{RunFault}
use Rattle.faults.specs.declared.fault.RunFault.TheVariants.{Own}
use Rattle.faults.specs.declared.refusal.Refusal.TheVariants.{ReportMissing, StockEmpty}

-- A question about the reports of a round, put to a referee of some stock: 15 where a report is missing, else 16 where the
-- stock is 0, else the true answer.
abbrev pub question_answer : {X Y : Type 0} → (truth : X → Y) → Option X → (stock : ℕ) → Result Y RunFault
question_answer truth None stock = Err (Own ReportMissing None)
question_answer truth (Some reports) stock = answered (check (stock == 0) StockEmpty) None (truth reports)

-- An answered call has asked a referee one question, which is what it spends; a refused one has left the referee as it was.
abbrev pub AsksOne : {R Y : Type 0} → (stock : R → ℕ) → (spends : R → R → Type 0) → R → R → Result Y RunFault → Type 0
AsksOne stock spends old new (Ok answer) = (stock old ≡ stock new + 1) × spends old new
AsksOne stock spends old new (Err fault) = new ≡ old
