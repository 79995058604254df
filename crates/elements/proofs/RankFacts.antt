-- The element of rank k, by its index in order and by counting.
use Rattle.std.proofs.Common.{◌≡◌, ℕ, ◌-◌, ◌<◌, ◌≤◌, Bool, true, false, not, List, length, get_or, subst, arith}
use Rattle.std.specs.List.{AllByRecursion as All}
use Rattle.std.proofs.ByRecursion.{All-get_or}
use Rattle.std.specs.List.Sorted.{IsPermutation}
use Rattle.std.proofs.lemmas.List.Sorted.{sum_by-IsPermutation}
use Rattle.std.proofs.lemmas.Bool.{not-true, not_from_false, false_from_ne_true}
use Rattle.elements.specs.Orders.{IsOrder, NeverFalls}
use Rattle.elements.specs.Ranks.{joint, count, in_order, Ranked, Counted}
use Rattle.elements.proofs.Indexes.{at_index}
use Rattle.elements.proofs.OrderFacts.{connected, le_lt_trans}
use Rattle.elements.proofs.ListCounts.{count-joint, count_le_length, count_weaken, count_past, count-front}
use Rattle.elements.proofs.SortedLists.{count-in_order, length-in_order, all_in_order, in_order_never_falls}

-- the rank by counting depends on the counts alone
pub counted_by_counts : {X : Type 0} {before : X → X → Bool} (k : ℕ) (xs ys : List X) → ((p : X → Bool) → count p xs ≡ count p ys) →
    (x : X) → Counted before k xs x → Counted before k ys x
counted_by_counts {X} {before} k xs ys same x c =
    record {
      few = omega (arith, same (λ y. before y x), c.few);
      many = omega (arith, same (λ y. not (before x y)), c.many);
    }

module _ {X : Type 0} {before : X → X → Bool} (o : IsOrder before) (k : ℕ) (xs : List X) where
  -- of two elements of rank k by counting, the first is not before the second
  not_before : (x y : X) → Counted before k xs x → Counted before k xs y → before x y ≡ false
  not_before x y cx cy =
      false_from_ne_true (before x y) (λ t.
      let w = count_weaken (λ z. not (before x z)) (λ z. before z y) xs (λ z h. le_lt_trans o z x y (not-true (before x z) h) t) in
      omega (arith, w, cx.many, cy.few))

  -- two elements of rank k by counting are equal
  pub counted_unique : (x y : X) → Counted before k xs x → Counted before k xs y → x ≡ y
  counted_unique x y cx cy = connected o x y (not_before x y cx cy) (not_before y x cy cx)

  -- in a list that never falls, the element at index k - 1 is of rank k by counting
  pub counted_at : NeverFalls before xs → 1 ≤ k → k ≤ length xs → (x : X) → ((d : X) → get_or xs (k - 1) d ≡ x) → Counted before k xs x
  counted_at up one most x e =
      let from : (i : ℕ) (d : X) → k - 1 ≤ i → i < length xs → before (get_or xs i d) x ≡ false
      = λ i d a b. rw (← (e d)) (up (k - 1) i d a b) in
      let to : (i : ℕ) (d : X) → i < k → not (before x (get_or xs i d)) ≡ true
      = λ i d a. not_from_false (before x (get_or xs i d)) (rw (← (e d)) (up i (k - 1) d (omega arith) (omega arith))) in
      record {
        few = omega (arith, count_past (λ y. before y x) xs (k - 1) from);
        many = count-front (λ y. not (before x y)) xs k most to;
      }

module _ {X : Type 0} {before : X → X → Bool} (o : IsOrder before) (k : ℕ) (xs : List X) where
  -- the list put in order
  abbrev ordered : List X
  ordered = in_order before xs

  -- it is as long
  same_length : length ordered ≡ length xs
  same_length = length-in_order before xs

  -- the literal form gives the counting form
  pub ranked_counted : (x : X) → Ranked before k xs x → Counted before k xs x
  ranked_counted x r =
      counted_by_counts k ordered xs (λ p. count-in_order before p xs) x
      (counted_at o k ordered (in_order_never_falls o xs) r.first (omega (arith, same_length, r.last)) x r.is)

  -- there is an element of each rank
  pub some_ranked : 1 ≤ k → k ≤ length xs → (x : X) × Ranked before k xs x
  some_ranked one most =
      let w = at_index ordered (k - 1) (omega (arith, same_length)) in
      (w.0, record { first = one; last = most; is = w.1 })

  -- the counting form gives the literal form
  pub counted_ranked : (x : X) → Counted before k xs x → Ranked before k xs x
  counted_ranked x c =
      let one : 1 ≤ k = omega (arith, c.few) in
      let most : k ≤ length xs = omega (arith, c.many, count_le_length (λ y. not (before x y)) xs) in
      let w = some_ranked one most in
      subst (Ranked before k xs) (counted_unique o k xs w.0 x (ranked_counted w.0 w.1) c) w.1

  -- two elements of rank k are equal
  pub ranked_unique : (x y : X) → Ranked before k xs x → Ranked before k xs y → x ≡ y
  ranked_unique x y r s = counted_unique o k xs x y (ranked_counted x r) (ranked_counted y s)

  -- what holds of every element holds of the one of rank k
  pub ranked_all : (P : X → Type 0) (x : X) → All P xs → Ranked before k xs x → P x
  ranked_all P x a r =
      subst P (r.is x) (All-get_or P ordered (k - 1) x (omega (arith, same_length, r.first, r.last)) (all_in_order before P xs a))

  -- in a list that never falls, the element at index k - 1 is of rank k
  pub ranked_at : NeverFalls before xs → 1 ≤ k → k ≤ length xs → (x : X) → ((d : X) → get_or xs (k - 1) d ≡ x) → Ranked before k xs x
  ranked_at up one most x e = counted_ranked x (counted_at o k xs up one most x e)

-- the rank depends on the counts alone
pub ranked_by_counts : {X : Type 0} {before : X → X → Bool} (o : IsOrder before) (k : ℕ) (xs ys : List X) → ((p : X → Bool) → count p xs ≡ count p ys) →
    (x : X) → Ranked before k xs x → Ranked before k ys x
ranked_by_counts o k xs ys same x r = counted_ranked o k ys x (counted_by_counts k xs ys same x (ranked_counted o k xs x r))

-- lists joined in any order have the same ranks
pub ranked_any_order : {X : Type 0} {before : X → X → Bool} (o : IsOrder before) (k : ℕ) (lists others : List (List X)) → IsPermutation lists others →
    (x : X) → Ranked before k (joint lists) x → Ranked before k (joint others) x
ranked_any_order o k lists others s =
    ranked_by_counts o k (joint lists) (joint others)
    (λ p. omega (arith, count-joint p lists, count-joint p others, sum_by-IsPermutation (count p) lists others s))
