-- Where a list falls first.
use Rattle.std.proofs.Common.{◌≡◌, ℕ, zero, suc, ◌+◌, ◌-◌, ◌<◌, ◌≤◌, Bool, true, false, ◌⊎◌, List, length, get_or, Some, None, Option, inl, inr, arith}
use Rattle.std.proofs.lemmas.Bool.{cases_Bool, cases_eq, both_ways}
use Rattle.elements.specs.Orders.{IsOrder, NeverFalls, FirstFall, IsFirstFall}
use Rattle.elements.proofs.Indexes.{at_index}
use Rattle.elements.proofs.OrderFacts.{neighbours_never_fall}

module _ {X : Type 0} (before : X → X → Bool) (xs : List X) where
  -- below an index no element falls, which is to be before its predecessor
  abbrev pub NoFallBelow : ℕ → Type 0
  NoFallBelow n = (i : ℕ) (d : X) → suc i < n → before (get_or xs (suc i) d) (get_or xs i d) ≡ false

  module _ (n : ℕ) (one : 1 ≤ n) (none : NoFallBelow n) (x y : X) (here : (d : X) → get_or xs n d ≡ x) (last : (d : X) → get_or xs (n - 1) d ≡ y) where
    -- nor at the index, where the element there does not fall
    pub none_below_next : before x y ≡ false → NoFallBelow (n + 1)
    none_below_next rises i d l = elim (cases_eq (suc i) n) [
      | inl same ↦ let e : i ≡ n - 1 = omega arith in rw (same, e, here d, last d) rises
      | inr other ↦ none i d (omega (arith, other))
    ]

    -- and where it does, it is the first
    pub first_here : n < length xs → before x y ≡ true → FirstFall before xs (n + 1)
    first_here inside falls =
        let a : n + 1 - 1 ≡ n = omega arith in
        let b : n + 1 - 2 ≡ n - 1 = omega arith in
        record { second = omega arith; inside = omega arith; falls = λ d. rw (a, b, here d, last d) falls; first = λ i d l. none i d (omega (arith, l)) }

  -- below an index no element falls, or one is the first that does
  fall_below : (n : ℕ) → n + 1 ≤ length xs → NoFallBelow (n + 1) ⊎ ((number : ℕ) × FirstFall before xs number)
  fall_below zero h = inl (λ i d l. absurd (omega arith))
  fall_below (suc n) h = elim (fall_below n (omega arith)) [
    | inl none ↦
        let here = at_index xs (n + 1) (omega arith) in
        let last = at_index xs (n + 1 - 1) (omega arith) in
        elim (cases_Bool (before here.0 last.0)) [
          | inl falls ↦ inr (n + 1 + 1, first_here (n + 1) (omega arith) none here.0 last.0 here.1 last.1 (omega arith) falls)
          | inr rises ↦ inl (λ i d l. none_below_next (n + 1) (omega arith) none here.0 last.0 here.1 last.1 rises i d (omega (arith, l)))
        ]
    | inr first ↦ inr first
  ]

  module _ (o : IsOrder before) where
    -- a list none of whose elements falls never falls
    pub never_falls : (n : ℕ) → length xs ≤ n → NoFallBelow n → NeverFalls before xs
    never_falls n long none = neighbours_never_fall o xs (λ i d l. none i d (omega (arith, l)))

    -- a list never falls, or it has a first fall
    pub fall_of : (fall : Option ℕ) × IsFirstFall before xs fall
    fall_of = elim (cases_eq (length xs) 0) [
      | inl empty ↦ (None, never_falls 0 (omega arith) (λ i d l. absurd (omega arith)))
      | inr some ↦ elim (fall_below (length xs - 1) (omega (arith, some))) [
        | inl none ↦ (None, never_falls _ (omega (arith, some)) none)
        | inr first ↦ (Some first.0, first.1)
      ]
    ]

  -- a list that never falls has no first fall
  pub no_first_fall : NeverFalls before xs → (number : ℕ) → FirstFall before xs number → ⊥
  no_first_fall never number first =
      let d = (at_index xs (number - 1) (omega (arith, first.second, first.inside))).0 in
      both_ways (before (get_or xs (number - 1) d) (get_or xs (number - 2) d))
      (never (number - 2) (number - 1) d (omega arith) (omega (arith, first.second, first.inside))) (first.falls d)
