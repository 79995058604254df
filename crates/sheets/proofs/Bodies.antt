-- The bytes of a list's elements: how many there are, where each element's stand, and that they are one list's.
use Rattle.std.proofs.Common.{◌≡◌, ℕ, zero, suc, ◌+◌, ◌*◌, ◌/◌, ◌<◌, ◌≤◌, List, [], ◌∷◌, ◌++◌, length, get_or, take, drop, Some, None, Option, sym, refl, ap, ◌∙◌, subst, le_of_suc-le-suc, not-suc-le-zero, suc-mul, zero-mul, arith, length-append, length-drop, take-append-drop, length-take-le}
use lib.Seq.{drop-append-add}
use Rattle.std.proofs.lemmas.List.{take_at, drop_at, get_or-drop}
use Rattle.sheets.specs.Layouts.{Format, FixedWidth, Distinct, Complete, Bytes, Decoded, elements_in, packed}
use Rattle.std.proofs.Math.Nat.{mul-div_left}
use Rattle.std.specs.Option.{unwrap_or}

-- a part of some bytes are bytes
pub bytes_take : (n : ℕ) (bytes : List ℕ) → Bytes bytes → Bytes (take n bytes)
bytes_take zero bytes h i = omega arith
bytes_take (suc n) [] h i = omega arith
bytes_take (suc n) (b ∷ bytes) h zero = h 0
bytes_take (suc n) (b ∷ bytes) h (suc i) = bytes_take n bytes (λ j. h (suc j)) i

pub bytes_drop : (n : ℕ) (bytes : List ℕ) → Bytes bytes → Bytes (drop n bytes)
bytes_drop n bytes h i = subst (λ (b : ℕ). b < 256) (sym (get_or-drop n bytes i 0)) (h (n + i))

module _ {E : Type 0} (f : Format E) (fixed : FixedWidth f) where
  pub length-packed : (xs : List E) → length (packed f xs) ≡ length xs * f.width
  length-packed [] = sym (zero-mul f.width)
  length-packed (x ∷ xs) =
      omega (arith, length-append (f.coded x) (packed f xs), fixed x, length-packed xs, suc-mul (length xs) f.width)

  pub elements_in-packed : (1 ≤ f.width) → (xs : List E) (bytes : List ℕ) → packed f xs ≡ bytes → elements_in f bytes ≡ length xs
  elements_in-packed one xs bytes e =
      ap (elements_in f) (sym e) ∙ ap (λ (n : ℕ). n / f.width) (length-packed xs) ∙ mul-div_left (length xs) one

  -- the bytes of the element at index i
  pub packed_at : (xs : List E) (i : ℕ) (d : E) → i < length xs → take f.width (drop (i * f.width) (packed f xs)) ≡ f.coded (get_or xs i d)
  packed_at [] i d h = absurd (not-suc-le-zero h)
  packed_at (x ∷ xs) zero d h = rw (zero-mul f.width) (take_at (f.coded x) (packed f xs) f.width (fixed x))
  packed_at (x ∷ xs) (suc i) d h =
      let n : suc i * f.width ≡ length (f.coded x) + i * f.width = omega (arith, suc-mul i f.width, fixed x) in
      let e : drop (suc i * f.width) (f.coded x ++ packed f xs) ≡ drop (i * f.width) (packed f xs)
      = ap (λ (k : ℕ). drop k (f.coded x ++ packed f xs)) n ∙ drop-append-add (f.coded x) (packed f xs) (i * f.width) in
      ap (take f.width) e ∙ packed_at xs i d (le_of_suc-le-suc h)

  -- no two lists have the same bytes
  pub packed_apart : (1 ≤ f.width) → Distinct f → (xs ys : List E) → packed f xs ≡ packed f ys → xs ≡ ys
  packed_apart one distinct [] [] e = refl
  packed_apart one distinct [] (y ∷ ys) e =
      absurd (omega (arith, ap length e, length-append (f.coded y) (packed f ys), fixed y))
  packed_apart one distinct (x ∷ xs) [] e =
      absurd (omega (arith, ap length e, length-append (f.coded x) (packed f xs), fixed x))
  packed_apart one distinct (x ∷ xs) (y ∷ ys) e =
      let c : f.coded x ≡ f.coded y
      = sym (take_at (f.coded x) (packed f xs) f.width (fixed x)) ∙ ap (take f.width) e ∙ take_at (f.coded y) (packed f ys) f.width (fixed y) in
      let r : packed f xs ≡ packed f ys
      = sym (drop_at (f.coded x) (packed f xs) f.width (fixed x)) ∙ ap (drop f.width) e ∙ drop_at (f.coded y) (packed f ys) f.width (fixed y) in
      let p : x ≡ y = distinct x y c in
      let q : xs ≡ ys = packed_apart one distinct xs ys r in
      cc

  -- bytes for n elements are those of some list of n elements
  pub some_list : Complete f → (n : ℕ) (bytes : List ℕ) → Bytes bytes → length bytes ≡ n * f.width → (xs : List E) × (packed f xs ≡ bytes) × (length xs ≡ n)
  some_list complete zero [] h e = ([], refl, refl)
  some_list complete zero (b ∷ bytes) h e = absurd (omega (arith, zero-mul f.width))
  some_list complete (suc n) bytes h e =
      let w = f.width in
      let s : suc n * w ≡ n * w + w = suc-mul n w in
      let x = complete (take w bytes) (length-take-le w bytes (omega arith)) (bytes_take w bytes h) in
      let r = some_list complete n (drop w bytes) (bytes_drop w bytes h) (omega (arith, length-drop w bytes)) in
      (x.0 ∷ r.0, (λ i. x.1 i ++ r.1 i) ∙ take-append-drop w bytes, ap suc r.2)

  -- the same in bytes that are those of the list
  part_at : (xs : List E) (bytes part : List ℕ) (i : ℕ) (d : E) → packed f xs ≡ bytes → i < length xs →
      part ≡ take f.width (drop (i * f.width) bytes) → f.coded (get_or xs i d) ≡ part
  part_at xs bytes part i d e h p =
      sym (p ∙ ap (λ (l : List ℕ). take f.width (drop (i * f.width) l)) (sym e) ∙ packed_at xs i d h)

  -- so what is decoded from there is the element
  pub decoded_at : (1 ≤ f.width) → Distinct f → (xs : List E) (bytes part : List ℕ) (i : ℕ) (d sample : E) (decoded : Option E) → packed f xs ≡ bytes →
      i < elements_in f bytes → part ≡ take f.width (drop (i * f.width) bytes) → Decoded f part decoded → get_or xs i d ≡ unwrap_or decoded sample
  decoded_at one distinct xs bytes part i d sample None e h p decoded =
      absurd (decoded (get_or xs i d) (part_at xs bytes part i d e (omega (arith, h, elements_in-packed one xs bytes e)) p))
  decoded_at one distinct xs bytes part i d sample (Some x) e h p decoded =
      distinct (get_or xs i d) x (part_at xs bytes part i d e (omega (arith, h, elements_in-packed one xs bytes e)) p ∙ sym decoded)
