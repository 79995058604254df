-- As which kind a sheet is read, by what it calls itself.
use Rattle.std.proofs.Common.{◌≡◌, ℕ, List, Some, None, Option, ◌≢◌, sym, subst, ◌∙◌, arith}
use Rattle.std.specs.Option.{unwrap_or}
use Rattle.sheets.specs.Headers.{kind_of}
use Rattle.sheets.specs.Kinds.{byte_of}
use Rattle.sheets.specs.declared.kind.Kind.{Kind}
use Rattle.sheets.specs.declared.kind.Kind.TheVariants.{Delays, LinkLevels}
use Rattle.sheets.specs.SheetSummaries.{IsReadAs}

-- the kind whose byte stands in a sheet, or none where it is no kind's
abbrev pub CallsItself : List ℕ → Option Kind → Type 0
CallsItself bytes (Some kind) = byte_of kind ≡ kind_of bytes
CallsItself bytes None = (kind : Kind) → byte_of kind ≢ kind_of bytes

by_name : (bytes : List ℕ) (o : Option Kind) → CallsItself bytes o → IsReadAs bytes (unwrap_or o Delays)
by_name bytes (Some Delays) h = λ l. let z : ◌≡◌ {A = ℕ} 1 2 = h ∙ l in omega arith
by_name bytes (Some LinkLevels) h = sym h
by_name bytes None h = λ l. h LinkLevels (sym l)

pub read_as : (bytes : List ℕ) (o : Option Kind) (kind : Kind) → CallsItself bytes o → kind ≡ unwrap_or o Delays → IsReadAs bytes kind
read_as bytes o kind h e = subst (IsReadAs bytes) (sym e) (by_name bytes o h)
