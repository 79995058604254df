-- What a sheet comes to, as numbers.
use Rattle.std.specs.Prelude.{◌≡◌, ℕ, Bool, List, None, Ok, Err, Result}
use Rattle.rankunit.specs.Faults.RefusalNumbers.{number_of}
use Rattle.rankunit.specs.Faults.declared.fault.SheetFault.{SheetFault}
use Rattle.rankunit.specs.Sheets.Layouts.{Format}
use Rattle.rankunit.specs.Sheets.Readings.{Answers, ReaderLaw}
use Rattle.rankunit_c.specs.Numbers.{spot_number}
use Rattle.rankunit_c.specs.declared.reading.Reading.{Reading}

-- what the reader answers, as numbers: how many elements it read, or the refusal
abbrev pub reading_of : Result ℕ SheetFault → Reading
reading_of (Ok count) = record { refusal = 0; count = count; spot = 0 }
reading_of (Err fault) = record { refusal = number_of fault.refusal; count = 0; spot = spot_number fault.refusal }

-- the reader reads the bytes for no seat into a slice, and its answer is this reading
pub record IsReading {E : Type 0} (before : E → E → Bool) (f : Format E) (bytes : List ℕ) (was is : List E) (reading : Reading) : Type 0 where
  pub read : Result ℕ SheetFault
  pub answers : Answers before f bytes was is None read
  pub law : ReaderLaw before f bytes was is read
  pub numbers : reading ≡ reading_of read
