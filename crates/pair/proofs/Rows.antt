-- What stands at a place of a row: its belows, its elements, its aboves.
use Rattle.std.proofs.Common.{◌≡◌, ℕ, zero, suc, ◌+◌, ◌-◌, ◌<◌, ◌≤◌, min, Bool, false, cond, leb, ◌⊎◌, List, ◌++◌, map, length, get_or, take, replicate, sym, refl, ap, ◌∙◌, inl, inr, arith, length-take}
use lib.ListN.{length-map, length-replicate}
use Rattle.std.proofs.lemmas.Bool.{cases_lt, cond-true, cond-false, le-leb, lt-leb}
use Rattle.std.proofs.lemmas.List.{get_or_append_left, get_or-append_right, get_or-replicate, get_or-map, get_or-take}
use Rattle.elements.specs.Orders.{NeverFalls}
use Rattle.elements.specs.Entries.{entry_before}
use Rattle.elements.specs.declared.entry.Entry.{Entry}
use Rattle.elements.specs.declared.entry.Entry.TheVariants.{Below, Element, Above}
use Rattle.elements.proofs.Indexes.{at_index}
use Rattle.referees.specs.declared.operand.EntryKind.{EntryKind}
use Rattle.referees.specs.declared.operand.EntryKind.TheVariants.{Below as BelowKind, Element as ElementKind, Above as AboveKind}
use Rattle.pair.specs.Rows.{padded, entry_at, entry_kind, kind_among}
use Rattle.pair.proofs.Orders.{none_before_below, none_after_above}

-- in a row of marks alone a mark is found, even past its end
marks_only : {E : Type 0} (n i : ℕ) (mark : Entry E) → get_or (replicate n mark) i mark ≡ mark
marks_only zero i mark = refl
marks_only (suc n) zero mark = refl
marks_only (suc n) (suc i) mark = marks_only n i mark

module _ {E : Type 0} (n lows k : ℕ) (xs : List E) where
  -- the row's aboves
  abbrev aboves : List (Entry E)
  aboves = replicate (n - lows - min k (length xs)) Above

  -- the row's elements
  abbrev elements : List (Entry E)
  elements = map Element (take k xs)

  -- below stands at the places up to lows
  pub row_below : (place : ℕ) → 1 ≤ place → place ≤ lows → entry_at (padded n lows k xs) place ≡ Below
  row_below place h l =
      get_or_append_left (replicate lows Below) (elements ++ aboves) Above (place - 1)
      (let low : Entry E = Below in omega (arith, length-replicate lows low))
      ∙ get_or-replicate lows (place - 1) Below Above (omega arith)

  -- past the belows stand the elements and the aboves
  past_belows : (place i : ℕ) → place ≡ lows + i + 1 → entry_at (padded n lows k xs) place ≡ get_or (elements ++ aboves) i Above
  past_belows place i e =
      let f : place - 1 - lows ≡ i = omega arith in
      get_or-append_right (replicate lows Below) (elements ++ aboves) lows (place - 1) Above (length-replicate lows Below) (omega arith)
      ∙ ap (λ (m : ℕ). get_or (elements ++ aboves) m Above) f

  -- how many elements a row shows
  length-elements : length elements ≡ min k (length xs)
  length-elements = length-map (take k xs) (λ (x : E). Element x) ∙ length-take k xs

  -- past the belows stand the first k elements, in their order
  pub row_element : (place i : ℕ) (d : E) → place ≡ lows + i + 1 → i < k → i < length xs →
      entry_at (padded n lows k xs) place ≡ Element (get_or xs i d)
  row_element place i d e h l =
      past_belows place i e
      ∙ get_or_append_left elements aboves Above i (omega (arith, length-elements))
      ∙ get_or-map Element (take k xs) i d Above (omega (arith, length-take k xs))
      ∙ ap Element (get_or-take k xs i d h)

  -- past the elements stands above, also past the row's end
  pub row_above : (place i : ℕ) → place ≡ lows + i + 1 → min k (length xs) ≤ i → entry_at (padded n lows k xs) place ≡ Above
  row_above place i e h =
      let m = n - lows - min k (length xs) in
      past_belows place i e
      ∙ get_or-append_right elements aboves (min k (length xs)) i Above length-elements h
      ∙ marks_only m (i - min k (length xs)) Above

  -- a row of a list that never falls never falls
  pub row_never_falls : (before : E → E → Bool) → NeverFalls before xs → (place later : ℕ) → 1 ≤ place → place ≤ later →
      entry_before before (entry_at (padded n lows k xs) later) (entry_at (padded n lows k xs) place) ≡ false
  row_never_falls before up place later h l =
      let entries = padded n lows k xs in
      elim (cases_lt lows place) [
        | inr s ↦ rw (row_below place h s) (none_before_below before (entry_at entries later))
        | inl s ↦ elim (cases_lt (lows + min k (length xs)) later) [
          | inl t ↦ rw (row_above later (later - lows - 1) (omega arith) (omega arith)) (none_after_above before (entry_at entries place))
          | inr t ↦
              let w = at_index xs (place - lows - 1) (omega arith) in
              rw (
                row_element later (later - lows - 1) w.0 (omega arith) (omega arith) (omega arith),
                row_element place (place - lows - 1) w.0 (omega arith) (omega arith) (omega arith),
              )
              (up (place - lows - 1) (later - lows - 1) w.0 (omega arith) (omega arith))
        ]
      ]

-- the kind of a place: up to lows, then for each element shown, then past them
pub kind_cases : (lows k d place : ℕ) →
    ((place ≤ lows) × (kind_among lows k d place ≡ BelowKind))
    ⊎ (((lows < place) × (place ≤ lows + min k d) × (kind_among lows k d place ≡ ElementKind))
    ⊎ ((lows + min k d < place) × (kind_among lows k d place ≡ AboveKind)))
kind_cases lows k d place =
    let last = lows + min k d in
    let rest = cond (leb place last) ElementKind AboveKind in
    elim (cases_lt lows place) [
      | inr s ↦ inl (s, cond-true (leb place lows) BelowKind rest (le-leb place lows s))
      | inl s ↦
          let e = cond-false (leb place lows) BelowKind rest (lt-leb place lows s) in
          elim (cases_lt last place) [
            | inl t ↦ inr (inr (t, e ∙ cond-false (leb place last) ElementKind AboveKind (lt-leb place last t)))
            | inr t ↦ inr (inl (s, t, e ∙ cond-true (leb place last) ElementKind AboveKind (le-leb place last t)))
          ]
    ]

-- where a place of each kind lies
abbrev pub Stands : (lows k d place : ℕ) → EntryKind → Type 0
Stands lows k d place BelowKind = place ≤ lows
Stands lows k d place ElementKind = (lows < place) × (place ≤ lows + min k d)
Stands lows k d place AboveKind = lows + min k d < place

-- a place lies where its kind says
pub place_stands : (lows k d place : ℕ) (kind : EntryKind) → kind ≡ kind_among lows k d place → Stands lows k d place kind
place_stands lows k d place kind e =
    rw e
    (elim (kind_cases lows k d place) [
      | inl s ↦ rw s.1 s.0
      | inr u ↦ elim u [ inl s ↦ rw s.2 (s.0, s.1) | inr s ↦ rw s.1 s.0 ]
    ])

-- a row of d elements has the kind of each place there
pub row_kind : {E : Type 0} (n lows k d : ℕ) (xs : List E) → length xs ≡ d →
    (place : ℕ) → 1 ≤ place → entry_kind (entry_at (padded n lows k xs) place) ≡ kind_among lows k d place
row_kind n lows k d xs len place h =
    elim (kind_cases lows k d place) [
      | inl s ↦ rw (row_below n lows k xs place h s.0) (sym s.1)
      | inr u ↦ elim u [
        | inl s ↦
            let w = at_index xs (place - lows - 1) (omega arith) in
            rw (row_element n lows k xs place (place - lows - 1) w.0 (omega arith) (omega arith) (omega arith)) (sym s.2)
        | inr s ↦ rw (row_above n lows k xs place (place - lows - 1) (omega arith) (omega arith)) (sym s.1)
      ]
    ]
