-- The layout of a list: it passes the checks that need no element, and bytes that pass are one.
use Rattle.std.proofs.Common.{◌≡◌, ℕ, suc, ◌+◌, ◌*◌, ◌%◌, ◌^◌, ◌<◌, ◌≤◌, List, [], ◌∷◌, length, refl, ap, ◌∙◌, mul-le-mul, arith}
use native.Mathlib.Nat.{mul-mod_left}
use Rattle.sheets.specs.Layouts.{Format, FormatLaw, Bytes, big_endian, packed, layout}
use Rattle.sheets.specs.Refusals.{Body}
use Rattle.sheets.specs.Headers.{body_of}
use Rattle.elements.specs.Limits.{longest_list}
use Rattle.sheets.proofs.HeaderPasses.{HeaderPasses}
use Rattle.sheets.specs.Digits.{digits_of_four, four_of_digits}
use Rattle.sheets.proofs.Bodies.{length-packed, elements_in-packed, packed_apart}

module _ {E : Type 0} (f : Format E) {each : ℕ} (law : FormatLaw f each) where
  -- no two lists have one layout
  pub layouts_apart : (xs ys : List E) → layout f xs ≡ layout f ys → xs ≡ ys
  layouts_apart xs ys e = packed_apart f law.fixed law.some law.distinct xs ys (ap body_of e)

  -- the layout of a list that is not too long passes the checks that need no element
  pub layout_passes : (xs : List E) → length xs ≤ longest_list → HeaderPasses f (layout f xs)
  layout_passes xs few =
      let long = length-packed f law.fixed xs in
      let small : suc (length (packed f xs)) < 2 ^ 32 = omega (arith, long, mul-le-mul few law.few) in
      record {
        long = omega arith;
        versioned = refl;
        counted = four_of_digits (suc (length (packed f xs))) small ∙ omega arith;
        wanted = refl;
        whole = ap (λ (n : ℕ). n % f.width) long ∙ mul-mod_left (length xs) f.width;
        few = rw (elements_in-packed f law.fixed law.some xs (packed f xs) refl) few;
      }

-- bytes that pass are the layout of the list in their body
pub laid_out : {E : Type 0} (f : Format E) (bytes : List ℕ) (xs : List E) → Bytes bytes → HeaderPasses f bytes → Body f bytes xs → bytes ≡ layout f xs
laid_out f [] xs h p e = absurd (omega (arith, p.long))
laid_out f (a ∷ []) xs h p e = absurd (omega (arith, p.long))
laid_out f (a ∷ b ∷ []) xs h p e = absurd (omega (arith, p.long))
laid_out f (a ∷ b ∷ c ∷ []) xs h p e = absurd (omega (arith, p.long))
laid_out f (a ∷ b ∷ c ∷ d ∷ []) xs h p e = absurd (omega (arith, p.long))
laid_out f (a ∷ b ∷ c ∷ d ∷ k ∷ []) xs h p e = absurd (omega (arith, p.long))
laid_out f (v ∷ a ∷ b ∷ c ∷ d ∷ k ∷ rest) xs h p e =
    let version_is : v ≡ 1 = p.versioned in
    let kind_is : k ≡ f.kind = p.wanted in
    let n : suc (length (packed f xs)) ≡ a * 16777216 + b * 65536 + c * 256 + d = omega (arith, p.counted, ap length e) in
    let digits : big_endian 4 (a * 16777216 + b * 65536 + c * 256 + d) ≡ a ∷ b ∷ c ∷ d ∷ [] = digits_of_four a b c d (h 1) (h 2) (h 3) (h 4) in
    let count_is : big_endian 4 (suc (length (packed f xs))) ≡ a ∷ b ∷ c ∷ d ∷ [] = ap (big_endian 4) n ∙ digits in
    cc
