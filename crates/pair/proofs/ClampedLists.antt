-- A list with one element put at an index, and the others brought down or up to it, still never falls.
use Rattle.std.proofs.Common.{◌≡◌, ℕ, zero, suc, ◌<◌, ◌≤◌, Bool, false, cond, List, [], ◌∷◌, map, length, get_or, refl, ap, inl, inr, le_of_suc-le-suc, not-suc-le-zero, arith}
use lib.ListN.{length-map}
use Rattle.std.proofs.lemmas.List.{get_or-map}
use Rattle.std.proofs.lemmas.Bool.{cases_lt, cond-true, cond-false, cond_both}
use Rattle.elements.specs.Orders.{IsOrder, NeverFalls}
use Rattle.elements.proofs.OrderFacts.{irreflexive, le_trans, lt_le_trans}

module _ {E : Type 0} (before : E → E → Bool) (v : E) where
  -- an element brought down to v
  abbrev pub at_most : E → E
  at_most x = cond (before v x) v x

  -- an element brought up to v
  abbrev pub at_least : E → E
  at_least x = cond (before x v) v x

  -- a list with v put at index i, the elements before it brought down to v and those after it up to v
  abbrev pub clamp : ℕ → List E → List E
  clamp i [] = []
  clamp zero (x ∷ xs) = v ∷ map at_least xs
  clamp (suc i) (x ∷ xs) = at_most x ∷ clamp i xs

  -- it is as long
  pub length-clamp : (i : ℕ) (xs : List E) → length (clamp i xs) ≡ length xs
  length-clamp i [] = refl
  length-clamp zero (x ∷ xs) = ap suc (length-map xs at_least)
  length-clamp (suc i) (x ∷ xs) = ap suc (length-clamp i xs)

  -- it has v at index i
  pub clamp_at : (i : ℕ) (xs : List E) (d : E) → i < length xs → get_or (clamp i xs) i d ≡ v
  clamp_at i [] d l = absurd (not-suc-le-zero l)
  clamp_at zero (x ∷ xs) d l = refl
  clamp_at (suc i) (x ∷ xs) d l = clamp_at i xs d (le_of_suc-le-suc l)

  -- before index i it has the elements brought down to v
  pub clamp_low : (i : ℕ) (xs : List E) (m : ℕ) (d : E) → m < i → m < length xs → get_or (clamp i xs) m d ≡ at_most (get_or xs m d)
  clamp_low i [] m d h l = absurd (not-suc-le-zero l)
  clamp_low zero (x ∷ xs) m d h l = absurd (not-suc-le-zero h)
  clamp_low (suc i) (x ∷ xs) zero d h l = refl
  clamp_low (suc i) (x ∷ xs) (suc m) d h l = clamp_low i xs m d (le_of_suc-le-suc h) (le_of_suc-le-suc l)

  -- and past index i those brought up to v
  pub clamp_high : (i : ℕ) (xs : List E) (m : ℕ) (d : E) → i < m → m < length xs → get_or (clamp i xs) m d ≡ at_least (get_or xs m d)
  clamp_high i [] m d h l = absurd (not-suc-le-zero l)
  clamp_high i (x ∷ xs) zero d h l = absurd (not-suc-le-zero h)
  clamp_high zero (x ∷ xs) (suc m) d h l = get_or-map at_least xs m d d (le_of_suc-le-suc l)
  clamp_high (suc i) (x ∷ xs) (suc m) d h l = clamp_high i xs m d (le_of_suc-le-suc h) (le_of_suc-le-suc l)

module _ {E : Type 0} {before : E → E → Bool} (o : IsOrder before) (v : E) where
  -- what is brought down to v is not after v
  most_le : (x : E) → before v (at_most before v x) ≡ false
  most_le x = cond_both (before v x) v x (λ y. before v y ≡ false) (λ _. irreflexive o v) (λ f. f)

  -- what is brought up to v is not before v
  least_le : (x : E) → before (at_least before v x) v ≡ false
  least_le x = cond_both (before x v) v x (λ y. before y v ≡ false) (λ _. irreflexive o v) (λ f. f)

  -- bringing down keeps the order
  most_keeps : (x y : E) → before y x ≡ false → before (at_most before v y) (at_most before v x) ≡ false
  most_keeps x y h =
      cond_both (before v x) v x (λ z. before (at_most before v y) z ≡ false)
      (λ t. rw (cond-true (before v y) v y (lt_le_trans o v x y t h)) (irreflexive o v))
      (λ f. cond_both (before v y) v y (λ z. before z x ≡ false) (λ _. f) (λ _. h))

  -- bringing up keeps the order
  least_keeps : (x y : E) → before y x ≡ false → before (at_least before v y) (at_least before v x) ≡ false
  least_keeps x y h =
      cond_both (before x v) v x (λ z. before (at_least before v y) z ≡ false)
      (λ _. least_le y)
      (λ f. rw (cond-false (before y v) v y (le_trans o v x y f h)) h)

  -- so the list still never falls
  pub clamp_never_falls : (i : ℕ) (xs : List E) → i < length xs → NeverFalls before xs → NeverFalls before (clamp before v i xs)
  clamp_never_falls i xs l up p q d h s =
      let e : length (clamp before v i xs) ≡ length xs = length-clamp before v i xs in
      let c = clamp before v i xs in
      let low : (m : ℕ) → m ≤ i → before v (get_or c m d) ≡ false
      = λ m t. elim (cases_lt m i) [
        | inl u ↦ rw (clamp_low before v i xs m d u (omega arith)) (most_le (get_or xs m d))
        | inr u ↦ let w : m ≡ i = omega arith in rw (w, clamp_at before v i xs d l) (irreflexive o v)
      ] in
      let high : (m : ℕ) → i ≤ m → m < length xs → before (get_or c m d) v ≡ false
      = λ m t r. elim (cases_lt i m) [
        | inl u ↦ rw (clamp_high before v i xs m d u r) (least_le (get_or xs m d))
        | inr u ↦ let w : m ≡ i = omega arith in rw (w, clamp_at before v i xs d l) (irreflexive o v)
      ] in
      elim (cases_lt q i) [
        | inl t ↦ rw (clamp_low before v i xs p d (omega arith) (omega arith), clamp_low before v i xs q d t (omega arith))
            (most_keeps (get_or xs p d) (get_or xs q d) (up p q d h (omega arith)))
        | inr t ↦ elim (cases_lt i p) [
          | inl u ↦ rw (clamp_high before v i xs p d u (omega arith), clamp_high before v i xs q d (omega arith) (omega arith))
              (least_keeps (get_or xs p d) (get_or xs q d) (up p q d h (omega arith)))
          | inr u ↦ le_trans o (get_or c p d) v (get_or c q d) (low p u) (high q t (omega arith))
        ]
      ]
