-- Lists that never fall, and putting a list in order.
use Rattle.std.proofs.Common.{◌≡◌, zero, suc, ◌+◌, Bool, false, cond, List, [], ◌∷◌, length, refl, ap, le_of_suc-le-suc, not-suc-le-zero, arith}
use Rattle.std.specs.List.{AllByRecursion as All}
use Rattle.std.proofs.ByRecursion.{All-get_or, All-weaker}
use Rattle.std.proofs.lemmas.Bool.{cond_both}
use Rattle.elements.specs.Orders.{IsOrder, NeverFalls}
use Rattle.elements.specs.Ranks.{count, put, in_order}
use Rattle.elements.proofs.OrderFacts.{irreflexive, asymmetric, le_trans}

module _ {X : Type 0} (before : X → X → Bool) where
  -- a list in order, part by part: none of the rest is before the first, and the rest is in order
  abbrev pub Sorted : List X → Type 0
  Sorted [] = Unit {0}
  Sorted (x ∷ xs) = All (λ y. before y x ≡ false) xs × Sorted xs

  -- what is put into a list counts once
  pub count-put : (p : X → Bool) (x : X) (ys : List X) → count p (put before x ys) ≡ cond (p x) 1 0 + count p ys
  count-put p x [] = refl
  count-put p x (y ∷ ys) =
      cond_both (before y x) (y ∷ put before x ys) (x ∷ y ∷ ys) (λ l. count p l ≡ cond (p x) 1 0 + (cond (p y) 1 0 + count p ys))
      (λ _. omega (arith, count-put p x ys)) (λ _. refl)

  -- putting in order keeps how many pass each test
  pub count-in_order : (p : X → Bool) (xs : List X) → count p (in_order before xs) ≡ count p xs
  count-in_order p [] = refl
  count-in_order p (x ∷ xs) = omega (arith, count-put p x (in_order before xs), count-in_order p xs)

  -- what is put into a list makes it longer by 1
  length-put : (x : X) (ys : List X) → length (put before x ys) ≡ suc (length ys)
  length-put x [] = refl
  length-put x (y ∷ ys) =
      cond_both (before y x) (y ∷ put before x ys) (x ∷ y ∷ ys) (λ l. length l ≡ suc (suc (length ys)))
      (λ _. ap suc (length-put x ys)) (λ _. refl)

  -- putting in order keeps the length
  pub length-in_order : (xs : List X) → length (in_order before xs) ≡ length xs
  length-in_order [] = refl
  length-in_order (x ∷ xs) = omega (arith, length-put x (in_order before xs), length-in_order xs)

  -- what holds of x and of every element holds of all once x is put in
  all_put : (P : X → Type 0) (x : X) (ys : List X) → P x → All P ys → All P (put before x ys)
  all_put P x [] h a = (h, tt)
  all_put P x (y ∷ ys) h a =
      cond_both (before y x) (y ∷ put before x ys) (x ∷ y ∷ ys) (All P)
      (λ _. (a.0, all_put P x ys h a.1)) (λ _. (h, a))

  -- what holds of every element holds of all once they are in order
  pub all_in_order : (P : X → Type 0) (xs : List X) → All P xs → All P (in_order before xs)
  all_in_order P [] a = tt
  all_in_order P (x ∷ xs) a = all_put P x (in_order before xs) a.0 (all_in_order P xs a.1)

module _ {X : Type 0} {before : X → X → Bool} (o : IsOrder before) where
  -- a list that is in order part by part never falls
  pub sorted_never_falls : (xs : List X) → Sorted before xs → NeverFalls before xs
  sorted_never_falls [] s i j d h l = absurd (not-suc-le-zero l)
  sorted_never_falls (x ∷ xs) s zero zero d h l = irreflexive o x
  sorted_never_falls (x ∷ xs) s zero (suc j) d h l = All-get_or (λ y. before y x ≡ false) xs j d (le_of_suc-le-suc l) s.0
  sorted_never_falls (x ∷ xs) s (suc i) zero d h l = absurd (not-suc-le-zero h)
  sorted_never_falls (x ∷ xs) s (suc i) (suc j) d h l = sorted_never_falls xs s.1 i j d (le_of_suc-le-suc h) (le_of_suc-le-suc l)

  -- a list in order still is once x is put in
  sorted_put : (x : X) (ys : List X) → Sorted before ys → Sorted before (put before x ys)
  sorted_put x [] s = (tt, tt)
  sorted_put x (y ∷ ys) s =
      cond_both (before y x) (y ∷ put before x ys) (x ∷ y ∷ ys) (Sorted before)
      (λ e. (all_put before (λ z. before z y ≡ false) x ys (asymmetric o y x e) s.0, sorted_put x ys s.1))
      (λ e. ((e, All-weaker (λ z. before z y ≡ false) (λ z. before z x ≡ false) (λ z f. le_trans o x y z e f) ys s.0), s))

  -- a list put in order is in order, part by part
  pub sorted_in_order : (xs : List X) → Sorted before (in_order before xs)
  sorted_in_order [] = tt
  sorted_in_order (x ∷ xs) = sorted_put x (in_order before xs) (sorted_in_order xs)

  -- a list put in order never falls
  pub in_order_never_falls : (xs : List X) → NeverFalls before (in_order before xs)
  in_order_never_falls xs = sorted_never_falls (in_order before xs) (sorted_in_order xs)
