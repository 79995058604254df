-- What a question to a referee comes to: the answer, and what is left of the stock.
use Rattle.std.specs.Prelude.{◌≡◌, ℕ, ◌+◌, Bool, None, Ok, Err, Result}
use Rattle.elements.specs.Entries.{lesser_entry}
use Rattle.elements.specs.declared.entry.Entry.{Entry}
use Rattle.faults.specs.declared.refusal.Refusal.TheVariants.{StockEmpty}
use Rattle.faults.specs.declared.fault.RunFault.{RunFault}
use Rattle.faults.specs.declared.fault.RunFault.TheVariants.{Own}
use Rattle.referees.specs.declared.operand.Operand.{Operand}
use Rattle.referees.specs.declared.sums.Sums.{Sums}
use Rattle.referees.specs.declared.verdict.PairVerdict.{PairVerdict}
use Rattle.referees.specs.declared.verdict.GroupVerdict.{GroupVerdict}
use Rattle.referees.specs.Operands.{entry_of}
use Rattle.referees.specs.Verdicts.{first_of, weight_of_sums}

-- how a question is refused: the stock is empty, and no seat is meant
abbrev pub out_of_stock : RunFault
out_of_stock = Own StockEmpty None

-- A question to a referee that was old and is new. With stock 0 it is refused and nothing of the referee changes;
-- otherwise the answer is the true one and the stock falls by one.
abbrev pub OneQuestion : {R X : Type 0} → (R → ℕ) → R → R → X → Result X RunFault → Type 0
OneQuestion stock old new truth (Ok answer) = (answer ≡ truth) × (stock old ≡ stock new + 1)
OneQuestion stock old new truth (Err fault) = (fault ≡ out_of_stock) × (stock old ≡ 0) × (new ≡ old)

-- the three questions, each entry taken as its kind and an element
abbrev pub AsksFirst : {E R : Type 0} → (E → E → Bool) → (R → ℕ) → R → R → Operand E → Operand E → Result PairVerdict RunFault → Type 0
AsksFirst before stock old new a b = OneQuestion stock old new (first_of before (entry_of a) (entry_of b))

abbrev pub AsksLesser : {E R : Type 0} → (E → E → Bool) → (R → ℕ) → R → R → Operand E → Operand E → Result (Entry E) RunFault → Type 0
AsksLesser before stock old new a b = OneQuestion stock old new (lesser_entry before (entry_of a) (entry_of b))

abbrev pub AsksWeight : {R : Type 0} → (R → ℕ) → R → R → Sums → Result GroupVerdict RunFault → Type 0
AsksWeight stock old new sums = OneQuestion stock old new (weight_of_sums sums)
