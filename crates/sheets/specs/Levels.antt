-- The eight bytes of a link level.
use Rattle.std.specs.Prelude.{◌≡◌, ℕ, suc, ◌+◌, ◌-◌, ◌^◌, ◌<◌, List, [], ◌∷◌, ◌++◌, length, drop, ℤ, pos, negsuc, ◌≤ℤ◌, slice_index, refl}
use Rattle.std.proofs.Common.{sym, ap, ◌∙◌, subst, arith, to_z}
use Rattle.std.specs.Int.{w32}
use Rattle.std.proofs.lemmas.Int.{ints}
use Rattle.std.proofs.lemmas.List.{get_or-drop}
use Rattle.std.proofs.lemmas.Bool.Decides.{nat_tests}
use Rattle.elements.specs.declared.link_level.LinkLevel.{LinkLevel}
use Rattle.elements.specs.Alike.{level_alike}
use Rattle.sheets.specs.Layouts.{big_endian, four, Bytes}
use Rattle.sheets.specs.Formats.{twos_complement, level_bytes}
use Rattle.sheets.specs.Digits.{first_four, first_four_fits, first_four_digits, digits_of_four, digits_of_list, digits_apart}

pub twos_of_bits : (n : ℕ) → n < 2 ^ 32 → twos_complement (to_z w32 n) ≡ n
twos_of_bits n h = grind (arith, nat_tests)

pub twos_fits : (z : ℤ) → negsuc (2 ^ 31 - 1) ≤ℤ z → z ≤ℤ pos (2 ^ 31 - 1) → twos_complement z < 2 ^ 32
twos_fits (pos n) l h = omega (arith, ints)
twos_fits (negsuc n) l h = omega (arith, ints)

pub twos_apart : (y z : ℤ) → negsuc (2 ^ 31 - 1) ≤ℤ y → y ≤ℤ pos (2 ^ 31 - 1) → negsuc (2 ^ 31 - 1) ≤ℤ z → z ≤ℤ pos (2 ^ 31 - 1) →
    twos_complement y ≡ twos_complement z → y ≡ z
twos_apart (pos m) (pos n) a b c d e = ap pos e
twos_apart (pos m) (negsuc n) a b c d e = absurd (omega (arith, ints))
twos_apart (negsuc m) (pos n) a b c d e = absurd (omega (arith, ints))
twos_apart (negsuc m) (negsuc n) a b c d e = let f : m ≡ n = omega (arith, ints) in ap negsuc f

-- the first half of eight bytes is the level, the second the link
pub digits_of_eight : (bytes : List ℕ) → length bytes ≡ 8 → Bytes bytes →
    big_endian 4 (first_four bytes) ++ big_endian 4 (first_four (drop 4 bytes)) ≡ bytes
digits_of_eight [] e h = absurd (omega arith)
digits_of_eight (a ∷ []) e h = absurd (omega arith)
digits_of_eight (a ∷ b ∷ []) e h = absurd (omega arith)
digits_of_eight (a ∷ b ∷ c ∷ []) e h = absurd (omega arith)
digits_of_eight (a ∷ b ∷ c ∷ d ∷ rest) e h =
    let p : big_endian 4 (first_four (a ∷ b ∷ c ∷ d ∷ [])) ≡ a ∷ b ∷ c ∷ d ∷ [] = digits_of_four a b c d (h 0) (h 1) (h 2) (h 3) in
    let q : big_endian 4 (first_four rest) ≡ rest = digits_of_list rest (omega arith) (λ i. h (suc (suc (suc (suc i))))) in
    cc

drop-bytes : (bytes : List ℕ) → Bytes bytes → Bytes (drop 4 bytes)
drop-bytes bytes h i = subst (λ (b : ℕ). b < 256) (sym (get_or-drop 4 bytes i 0)) (h (4 + i))

bits_low : (n : ℕ) → n < 2 ^ 32 → negsuc (2 ^ 31 - 1) ≤ℤ to_z w32 n
bits_low n h = grind (arith, ints, nat_tests)

bits_high : (n : ℕ) → n < 2 ^ 32 → to_z w32 n ≤ℤ pos (2 ^ 31 - 1)
bits_high n h = grind (arith, ints, nat_tests)

pub level_of_bytes : (bytes : List ℕ) → length bytes ≡ 8 → Bytes bytes → (x : LinkLevel) × (level_bytes x ≡ bytes)
level_of_bytes bytes e h =
    let p : first_four bytes < 2 ^ 32 = first_four_fits bytes h in
    let q : first_four (drop 4 bytes) < 2 ^ 32 = first_four_fits (drop 4 bytes) (drop-bytes bytes h) in
    let x : LinkLevel = record {
      level = to_z w32 (first_four bytes);
      link = first_four (drop 4 bytes);
      low = bits_low (first_four bytes) p;
      high = bits_high (first_four bytes) p;
      fits = q;
    } in
    (x, ap (λ (n : ℕ). big_endian 4 n ++ big_endian 4 (first_four (drop 4 bytes))) (twos_of_bits (first_four bytes) p) ∙ digits_of_eight bytes e h)

pub levels_distinct : (x y : LinkLevel) → level_bytes x ≡ level_bytes y → x ≡ y
levels_distinct x y e =
    let f = twos_fits x.level x.low x.high in
    let g = twos_fits y.level y.low y.high in
    let m : twos_complement x.level ≡ twos_complement y.level
    = sym (first_four_digits (twos_complement x.level) (big_endian 4 x.link) f) ∙ ap first_four e ∙ first_four_digits (twos_complement y.level) (big_endian 4 y.link) g in
    let n : x.link ≡ y.link
    = digits_apart x.link y.link x.fits y.fits (ap (λ (l : List ℕ). drop 4 l) e) in
    level_alike x y (twos_apart x.level y.level x.low x.high y.low y.high m) n

-- the number that the second four bytes of a list hold
abbrev pub next_four : List ℕ → ℕ
next_four bytes = four (slice_index bytes 4) (slice_index bytes 5) (slice_index bytes 6) (slice_index bytes 7)

next_is_drop : (bytes : List ℕ) → length bytes ≡ 8 → next_four bytes ≡ first_four (drop 4 bytes)
next_is_drop [] e = absurd (omega arith)
next_is_drop (a ∷ []) e = absurd (omega arith)
next_is_drop (a ∷ b ∷ []) e = absurd (omega arith)
next_is_drop (a ∷ b ∷ c ∷ []) e = absurd (omega arith)
next_is_drop (a ∷ b ∷ c ∷ d ∷ rest) e = refl

-- a level and a link that are read from eight bytes have those bytes
pub bytes_of_read : (bytes : List ℕ) (z : ℤ) (n : ℕ) → length bytes ≡ 8 → Bytes bytes → z ≡ to_z w32 (first_four bytes) → n ≡ next_four bytes →
    big_endian 4 (twos_complement z) ++ big_endian 4 n ≡ bytes
bytes_of_read bytes z n e h p q =
    let t : twos_complement z ≡ first_four bytes = ap twos_complement p ∙ twos_of_bits (first_four bytes) (first_four_fits bytes h) in
    let u : n ≡ first_four (drop 4 bytes) = q ∙ next_is_drop bytes e in
    let w = digits_of_eight bytes e h in
    cc
