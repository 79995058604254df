-- How a question takes an entry: as its kind and an element.
use Rattle.elements.specs.declared.entry.Entry.{Entry}
use Rattle.elements.specs.declared.entry.Entry.TheVariants.{Below, Element, Above}
use Rattle.referees.specs.declared.operand.EntryKind.{EntryKind}
use Rattle.referees.specs.declared.operand.EntryKind.TheVariants.{Below as BelowKind, Element as ElementKind, Above as AboveKind}
use Rattle.referees.specs.declared.operand.Operand.{Operand}

-- the entry of a kind with an element; with a mark's kind the element does not matter
abbrev pub entry_with : {E : Type 0} → EntryKind → E → Entry E
entry_with BelowKind x = Below
entry_with ElementKind x = Element x
entry_with AboveKind x = Above

-- the entry of an operand
abbrev pub entry_of : {E : Type 0} → Operand E → Entry E
entry_of operand = entry_with operand.kind operand.element

-- an entry's kind with its element, or with the type's sample for a mark
abbrev pub operand_of : {E : Type 0} → E → Entry E → Operand E
operand_of sample Below = record { kind = BelowKind; element = sample }
operand_of sample (Element x) = record { kind = ElementKind; element = x }
operand_of sample Above = record { kind = AboveKind; element = sample }
