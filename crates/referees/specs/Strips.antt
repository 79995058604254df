-- The stock of a strip, and which words a question takes. A strip is its unused words.
use Rattle.std.specs.Prelude.{◌≡◌, ℕ, ◌/◌, ◌<◌, ◌≤◌, length, drop, Ok, Err, Result, slice_index}
use Rattle.faults.specs.declared.fault.RunFault.{RunFault}
use Rattle.referees.specs.Questions.{out_of_stock}
use Rattle.referees.specs.declared.strip.Strip.{Strip}
use Rattle.referees.specs.declared.masks.Masks.{Masks}

-- half the unused words, rounded down
abbrev pub strip_stock : Strip → ℕ
strip_stock words = length words / 2

-- the first two unused words, where there are two
abbrev pub FirstTwo : Strip → Strip → Result Masks RunFault → Type 0
FirstTwo old new (Ok masks) = (2 ≤ length old) × (masks.first ≡ slice_index old 0) × (masks.second ≡ slice_index old 1) × (new ≡ drop 2 old)
FirstTwo old new (Err fault) = (fault ≡ out_of_stock) × (length old < 2) × (new ≡ old)

-- an answered question takes a strip's first two unused words and no other
abbrev pub TakesTwoWords : Strip → Strip → Type 0
TakesTwoWords old new = new ≡ drop 2 old
