-- What follows from the two laws of an order. That x is not after y is written as before y x ≡ false.
use Rattle.std.proofs.Common.{◌≡◌, ℕ, zero, suc, ◌<◌, Bool, true, false, List, length, get_or, sym, ap, ◌∙◌, inl, inr, le_of_suc-le-suc, arith}
use Rattle.std.proofs.lemmas.Bool.{cases_Bool, cases_lt, both_ways, false_from_ne_true, true_from_ne_false}
use Rattle.elements.specs.Orders.{IsOrder, NeverFalls}

module _ {X : Type 0} {before : X → X → Bool} (o : IsOrder before) where
  -- no element is before itself
  pub irreflexive : (x : X) → before x x ≡ false
  irreflexive x =
      false_from_ne_true (before x x) (λ t. elim (o.trichotomy x x) [
        | inl p ↦ p.1 t
        | inr q ↦ elim q [ inl p ↦ p.0 t | inr p ↦ p.0 t ]
      ])

  -- of two elements, neither before the other, both are one
  pub connected : (x y : X) → before x y ≡ false → before y x ≡ false → x ≡ y
  connected x y f g =
      elim (o.trichotomy x y) [
        | inl p ↦ absurd (both_ways (before x y) f p.0)
        | inr q ↦ elim q [ inl p ↦ absurd (both_ways (before y x) g p.1) | inr p ↦ p.2 ]
      ]

  -- x before y: y is not before x
  pub asymmetric : (x y : X) → before x y ≡ true → before y x ≡ false
  asymmetric x y h = false_from_ne_true (before y x) (λ t. both_ways (before x x) (irreflexive x) (o.transitive x y x h t))

  -- x not after y, y not after z: x is not after z
  pub le_trans : (x y z : X) → before y x ≡ false → before z y ≡ false → before z x ≡ false
  le_trans x y z p q =
      false_from_ne_true (before z x) (λ t. elim (cases_Bool (before y z)) [
        | inl s ↦ both_ways (before y x) p (o.transitive y z x s t)
        | inr f ↦ both_ways (before z x) (ap (λ w. before w x) (sym (connected y z f q)) ∙ p) t
      ])

  -- x not after y, y before z: x is before z
  pub le_lt_trans : (x y z : X) → before y x ≡ false → before y z ≡ true → before x z ≡ true
  le_lt_trans x y z p q = true_from_ne_false (before x z) (λ f. both_ways (before y z) (le_trans z x y f p) q)

  -- x before y, y not after z: x is before z
  pub lt_le_trans : (x y z : X) → before x y ≡ true → before z y ≡ false → before x z ≡ true
  lt_le_trans x y z p q = true_from_ne_false (before x z) (λ f. both_ways (before x y) (le_trans y z x q f) p)

  -- a list never falls where no element is before its predecessor
  pub neighbours_never_fall : (xs : List X) →
      ((i : ℕ) (d : X) → suc i < length xs → before (get_or xs (suc i) d) (get_or xs i d) ≡ false) → NeverFalls before xs
  neighbours_never_fall xs n i zero d h l = let e : i ≡ 0 = omega arith in rw e (irreflexive (get_or xs 0 d))
  neighbours_never_fall xs n i (suc j) d h l =
      elim (cases_lt i (suc j)) [
        | inl s ↦ le_trans (get_or xs i d) (get_or xs j d) (get_or xs (suc j) d) (neighbours_never_fall xs n i j d (le_of_suc-le-suc s) (omega arith)) (n j d l)
        | inr s ↦ let e : i ≡ suc j = omega arith in rw e (irreflexive (get_or xs (suc j) d))
      ]
