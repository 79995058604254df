-- Four bytes and the number that they hold.
use Rattle.std.specs.Prelude.{◌≡◌, ℕ, ◌/◌, ◌%◌, ◌^◌, ◌<◌, List, [], ◌∷◌, ◌++◌, length, slice_index}
use Rattle.std.proofs.Common.{refl, sym, ap, ◌∙◌, arith}
use Rattle.std.specs.Int.{w32, to_be_bytes}
use Rattle.std.proofs.Math.Nat.{div-one}
use Rattle.std.proofs.lemmas.Nat.{be_bytes_4, from_be_bytes-to_be_bytes_4}
use Rattle.sheets.specs.Layouts.{big_endian, four, Bytes}

-- the number that the first four bytes of a list hold
abbrev pub first_four : List ℕ → ℕ
first_four xs = four (slice_index xs 0) (slice_index xs 1) (slice_index xs 2) (slice_index xs 3)

-- std writes the same four digits
as_std : (n : ℕ) → big_endian 4 n ≡ to_be_bytes w32 n
as_std n = ap (λ (m : ℕ). (n / 16777216) % 256 ∷ (n / 65536) % 256 ∷ (n / 256) % 256 ∷ m % 256 ∷ []) (div-one n)

pub digits_of_four : (a b c d : ℕ) → a < 256 → b < 256 → c < 256 → d < 256 → big_endian 4 (four a b c d) ≡ a ∷ b ∷ c ∷ d ∷ []
digits_of_four a b c d p q r s =
    let e : (four a b c d / 16777216) % 256 ≡ a = omega arith in
    let f : (four a b c d / 65536) % 256 ≡ b = omega arith in
    let g : (four a b c d / 256) % 256 ≡ c = omega arith in
    let h : (four a b c d / 1) % 256 ≡ d = omega arith in
    cc

pub four_of_digits : (n : ℕ) → n < 2 ^ 32 → four ((n / 16777216) % 256) ((n / 65536) % 256) ((n / 256) % 256) ((n / 1) % 256) ≡ n
four_of_digits n h = ap first_four (as_std n) ∙ from_be_bytes-to_be_bytes_4 n h

pub first_four_digits : (n : ℕ) (rest : List ℕ) → n < 2 ^ 32 → first_four (big_endian 4 n ++ rest) ≡ n
first_four_digits n rest h = four_of_digits n h

pub digits_apart : (m n : ℕ) → m < 2 ^ 32 → n < 2 ^ 32 → big_endian 4 m ≡ big_endian 4 n → m ≡ n
digits_apart m n p q e = sym (four_of_digits m p) ∙ ap first_four e ∙ four_of_digits n q

pub first_four_fits : (bytes : List ℕ) → Bytes bytes → first_four bytes < 2 ^ 32
first_four_fits bytes h = omega (arith, h 0, h 1, h 2, h 3)

pub digits_of_list : (bytes : List ℕ) → length bytes ≡ 4 → Bytes bytes → big_endian 4 (first_four bytes) ≡ bytes
digits_of_list bytes e h = as_std (first_four bytes) ∙ be_bytes_4 bytes (first_four bytes) e h refl
