-- How a list is laid out as the bytes of a sheet.
use Rattle.std.specs.Prelude.{◌≡◌, ℕ, zero, suc, ◌+◌, ◌*◌, ◌/◌, ◌%◌, ◌^◌, ◌<◌, ◌≤◌, List, [], ◌∷◌, ◌++◌, length, Some, None, Option, ◌≢◌, slice_index}

-- the last w digits of n to base 256, the highest first
abbrev pub big_endian : ℕ → ℕ → List ℕ
big_endian zero n = []
big_endian (suc w) n = (n / 256 ^ w) % 256 ∷ big_endian w n

-- the number that four bytes hold, the highest first
abbrev pub four : ℕ → ℕ → ℕ → ℕ → ℕ
four a b c d = a * 16777216 + b * 65536 + c * 256 + d

-- what a sheet has to know of its elements: the byte that names their kind, and the bytes of each
pub record Format (E : Type 0) : Type 0 where
  pub kind : ℕ
  pub width : ℕ
  pub coded : E → List ℕ

abbrev pub FixedWidth : {E : Type 0} → Format E → Type 0
FixedWidth {E} f = (x : E) → length (f.coded x) ≡ f.width

-- no two elements have the same bytes
abbrev pub Distinct : {E : Type 0} → Format E → Type 0
Distinct {E} f = (x y : E) → f.coded x ≡ f.coded y → x ≡ y

-- each of a list's numbers fits a byte
abbrev pub Bytes : List ℕ → Type 0
Bytes bytes = (i : ℕ) → slice_index bytes i < 256

-- any bytes of the right number are some element's
abbrev pub Complete : {E : Type 0} → Format E → Type 0
Complete {E} f = (bytes : List ℕ) → length bytes ≡ f.width → Bytes bytes → (x : E) × (f.coded x ≡ bytes)

-- The law of a type that is carried on sheets: an element has as many bytes as is stated, from 1 to 8, the same for each; no two
-- elements have the same bytes, and any bytes of that number are some element's.
pub record FormatLaw {E : Type 0} (f : Format E) (bytes_each : ℕ) : Type 0 where
  pub each : bytes_each ≡ f.width
  pub some : 1 ≤ f.width
  pub few : f.width ≤ 8
  pub fixed : FixedWidth f
  pub distinct : Distinct f
  pub complete : Complete f

-- what answers the call for the element with these bytes: it, or none where there is none
abbrev pub Decoded : {E : Type 0} → Format E → List ℕ → Option E → Type 0
Decoded f bytes (Some x) = f.coded x ≡ bytes
Decoded {E} f bytes None = (x : E) → f.coded x ≢ bytes

-- how many elements stand in so many bytes
abbrev pub elements_in : {E : Type 0} → Format E → List ℕ → ℕ
elements_in f bytes = length bytes / f.width

-- the bytes of the elements of a list, one after another
abbrev pub packed : {E : Type 0} → Format E → List E → List ℕ
packed f [] = []
packed f (x ∷ xs) = f.coded x ++ packed f xs

-- version 1, the number of the bytes that follow in four bytes, the kind, the body
abbrev pub layout : {E : Type 0} → Format E → List E → List ℕ
layout f xs = 1 ∷ (big_endian 4 (suc (length (packed f xs))) ++ (f.kind ∷ packed f xs))
