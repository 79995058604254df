-- The parts of a sheet: what the first six bytes say, and what follows them.
use Rattle.std.specs.Prelude.{ℕ, List, drop, slice_index}
use Rattle.sheets.specs.Layouts.{four}

abbrev pub version : List ℕ → ℕ
version bytes = slice_index bytes 0

-- how many bytes follow the first five, as the sheet states it
abbrev pub stated_count : List ℕ → ℕ
stated_count bytes = four (slice_index bytes 1) (slice_index bytes 2) (slice_index bytes 3) (slice_index bytes 4)

abbrev pub kind_of : List ℕ → ℕ
kind_of bytes = slice_index bytes 5

-- what follows the header
abbrev pub body_of : List ℕ → List ℕ
body_of bytes = drop 6 bytes
