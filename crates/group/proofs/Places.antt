-- Elements by their places: their rank by counting, their counts and sums of these, and elements at given places.
use Rattle.std.proofs.Common.{◌≡◌, ℕ, ◌≤◌, Bool, not, List, [], ◌∷◌, ◌++◌, map, length, nat_lt, sum_by, sym, refl, ap, ◌∙◌, arith, length-append}
use Rattle.std.specs.List.{AllByRecursion as Each}
use Rattle.std.proofs.ByRecursion.{All-append}
use Rattle.std.proofs.lemmas.List.{length-map}
use Rattle.std.proofs.lemmas.List.Sums.{sum_by-cons}
use Rattle.elements.specs.Orders.{PlacesAgree, OneElementEach}
use Rattle.elements.specs.Ranks.{joint, count, Counted}
use Rattle.elements.proofs.ListCounts.{count-append, count-map, count_same}

-- where the order is that of places, the place of the element of rank k is of rank k among the places, both by counting
pub counted_places : {E : Type 0} (before : E → E → Bool) (place : E → ℕ) → PlacesAgree before place → (k : ℕ) (xs : List E) (x : E) →
    Counted before k xs x → Counted nat_lt k (map place xs) (place x)
counted_places before place agrees k xs x c =
    let few : count (λ y. nat_lt y (place x)) (map place xs) ≡ count (λ y. before y x) xs
    = count-map (λ y. nat_lt y (place x)) place xs ∙ count_same (λ y. nat_lt (place y) (place x)) (λ y. before y x) xs (λ y. sym (agrees y x)) in
    let many : count (λ y. not (nat_lt (place x) y)) (map place xs) ≡ count (λ y. not (before x y)) xs
    = count-map (λ y. not (nat_lt (place x) y)) place xs
    ∙ count_same (λ y. not (nat_lt (place x) (place y))) (λ y. not (before x y)) xs (λ y. ap not (sym (agrees x y))) in
    record { few = omega (arith, few, c.few); many = omega (arith, many, c.many) }

-- what holds of every element of each list holds of every joint one
pub all_joint : {E : Type 0} (P : E → Type 0) (lists : List (List E)) → Each (Each P) lists → Each P (joint lists)
all_joint P [] a = tt
all_joint P (xs ∷ lists) a = All-append P xs (joint lists) a.0 (all_joint P lists a.1)

module _ {E : Type 0} (place : E → ℕ) where
  -- over some lists, the counts of the places of each add up to the count of the joint places
  pub sum_counts : (p : ℕ → Bool) (lists : List (List E)) → sum_by (λ xs. count p (map place xs)) lists ≡ count p (map place (joint lists))
  sum_counts p [] = refl
  sum_counts p (xs ∷ lists) =
      omega (
        arith,
        count-map p place (xs ++ joint lists),
        count-map p place xs,
        count-map p place (joint lists),
        count-append (λ x. p (place x)) xs (joint lists),
        sum_counts p lists,
        sum_by-cons (λ ys. count p (map place ys)) xs lists,
      )

  -- their lengths add up to the length of the joint places
  pub sum_lengths : (lists : List (List E)) → sum_by length lists ≡ length (map place (joint lists))
  sum_lengths [] = refl
  sum_lengths (xs ∷ lists) =
      omega (
        arith,
        length-map (xs ++ joint lists) place,
        length-map (joint lists) place,
        length-append xs (joint lists),
        sum_lengths lists,
        sum_by-cons {X = List E} length xs lists,
      )

  -- what holds of the places holds of the elements
  pub all_places : (P : ℕ → Type 0) (xs : List E) → Each P (map place xs) → Each (λ x. P (place x)) xs
  all_places P [] a = tt
  all_places P (x ∷ xs) a = (a.0, all_places P xs a.1)

  -- where there is an element at each place, there are elements at all places of a list
  pub elements_at : (lowest highest : ℕ) → OneElementEach place lowest highest → (lo hi : ℕ) → lowest ≤ lo → hi ≤ highest →
      (ys : List ℕ) → Each (λ y. (lo ≤ y) × (y ≤ hi)) ys → (xs : List E) × (map place xs ≡ ys)
  elements_at lowest highest each lo hi p q [] a = ([], refl)
  elements_at lowest highest each lo hi p q (y ∷ ys) a =
      let w = a.0 in
      let x = each y (omega arith) (omega arith) in
      let rest = elements_at lowest highest each lo hi p q ys a.1 in
      (x.0 ∷ rest.0, ap (λ (n : ℕ). n ∷ map place rest.0) x.1 ∙ ap (λ (l : List ℕ). y ∷ l) rest.1)
