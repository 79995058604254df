-- The kinds of sheets, and the bytes that name them.
use Rattle.std.specs.Prelude.{◌≡◌, ℕ, Ok, Err, Result, ◌≢◌}
use Rattle.sheets.specs.declared.kind.Kind.{Kind}
use Rattle.sheets.specs.declared.kind.Kind.TheVariants.{Delays, LinkLevels}
use Rattle.sheets.specs.declared.kind.UnknownKind.{UnknownKind}

-- the byte that names a kind on a sheet
abbrev pub byte_of : Kind → ℕ
byte_of Delays = 1
byte_of LinkLevels = 2

-- what answers for a byte: the kind that it names, or the byte itself where it names none
abbrev pub NamesKind : ℕ → Result Kind UnknownKind → Type 0
NamesKind byte (Ok kind) = byte_of kind ≡ byte
NamesKind byte (Err unknown) = (unknown.0 ≡ byte) × ((kind : Kind) → byte_of kind ≢ byte)
