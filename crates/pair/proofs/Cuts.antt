-- The bisection for rank k ends at a cut of both lists, and the entry found there is the element of rank k.
use Rattle.std.proofs.Common.{◌≡◌, ℕ, zero, suc, ◌+◌, ◌-◌, ◌<◌, ◌≤◌, min, Bool, true, false, not, List, ◌++◌, length, get_or, refl, ap, ◌∙◌, subst, inl, inr, zero-le, not-suc-le-zero, arith}
use Rattle.std.proofs.lemmas.Bool.{both_ways, cases_Bool, cases_lt, cond-true, cond-false, not_from_false}
use Rattle.elements.specs.Orders.{IsOrder, NeverFalls}
use Rattle.elements.specs.Entries.{entry_before, lesser_entry}
use Rattle.elements.specs.declared.entry.Entry.{Entry}
use Rattle.elements.specs.declared.entry.Entry.TheVariants.{Below, Element, Above}
use Rattle.elements.proofs.Indexes.{at_index}
use Rattle.elements.proofs.OrderFacts.{irreflexive, asymmetric, le_trans}
use Rattle.elements.specs.Ranks.{count, Counted}
use Rattle.elements.proofs.ListCounts.{count-append, count_past, count-front}
use Rattle.elements.proofs.RankFacts.{counted_ranked}
use Rattle.pair.specs.Rows.{halvings, row_length, belows, padded, row, entry_at}
use Rattle.pair.specs.Bisection.{OfSides, offset_after, pair_verdicts, pair_result, joint_pair}
use Rattle.pair.specs.PairLaws.{HasRank, BisectionFindsRank}
use Rattle.pair.specs.declared.side.Side.{Side}
use Rattle.pair.specs.declared.side.Side.TheVariants.{A, B}
use Rattle.pair.proofs.BisectionSteps.{other, other-other, both_sides, Held, held_at_end}
use Rattle.pair.proofs.Logarithms.{rank_fits_row}
use Rattle.pair.proofs.Orders.{entry_order}
use Rattle.pair.proofs.Rows.{row_below, row_element, row_above}

-- x cuts two lists: so many elements of each stand behind, none of them after x; of the others none is before x, and in one
-- list x is the first of them
pub record Cut {E : Type 0} (before : E → E → Bool) (lists : Side → List E) (behind : OfSides) (x : E) : Type 0 where
  pub within : (side : Side) → behind side ≤ length (lists side)
  pub low : (side : Side) (i : ℕ) (d : E) → i < behind side → before x (get_or (lists side) i d) ≡ false
  pub high : (side : Side) (i : ℕ) (d : E) → behind side ≤ i → i < length (lists side) → before (get_or (lists side) i d) x ≡ false
  pub at : Side
  pub before_end : behind at < length (lists at)
  pub is : (d : E) → get_or (lists at) (behind at) d ≡ x

module _ {E : Type 0} {before : E → E → Bool} (o : IsOrder before) (lists : Side → List E) where
  -- an element is not after x
  abbrev up_to : E → E → Bool
  up_to x y = not (before x y)

  -- what cuts two lists is of the rank next to how many stand behind, by counting
  pub cut_counted : (behind : OfSides) (x : E) → Cut before lists behind x → Counted before (behind A + behind B + 1) (joint_pair lists) x
  cut_counted behind x c =
      let first = λ (y : E). before y x in
      record {
        few = omega (
          arith,
          count-append first (lists A) (lists B),
          count_past first (lists A) (behind A) (c.high A),
          count_past first (lists B) (behind B) (c.high B),
        );
        many = total c.at (more c.at c.before_end c.is) (front (other c.at));
      }
    where
      -- those behind are not after x
      front : (side : Side) → behind side ≤ count (up_to x) (lists side)
      front side =
          count-front (up_to x) (lists side) (behind side) (c.within side)
          (λ i d s. not_from_false (before x (get_or (lists side) i d)) (c.low side i d s))

      -- nor is x itself
      more : (side : Side) → behind side < length (lists side) → ((d : E) → get_or (lists side) (behind side) d ≡ x) →
          suc (behind side) ≤ count (up_to x) (lists side)
      more side s e =
          count-front (up_to x) (lists side) (suc (behind side)) s
          (λ i d l. elim (cases_lt i (behind side)) [
            | inl t ↦ not_from_false (before x (get_or (lists side) i d)) (c.low side i d t)
            | inr t ↦
                let w : behind side ≡ i = omega arith in
                let z : get_or (lists side) i d ≡ x = subst (λ (m : ℕ). get_or (lists side) m d ≡ x) w (e d) in
                not_from_false (before x (get_or (lists side) i d)) (rw z (irreflexive o x))
          ])

      -- nor are those behind in the other list
      total : (side : Side) → suc (behind side) ≤ count (up_to x) (lists side) →
          behind (other side) ≤ count (up_to x) (lists (other side)) →
          behind A + behind B + 1 ≤ count (up_to x) (lists A ++ lists B)
      total A q r = omega (arith, count-append (up_to x) (lists A) (lists B))
      total B q r = omega (arith, count-append (up_to x) (lists A) (lists B))

-- of a list that never falls, the first i elements are not after v, if the row's entry after its belows and i others is not
left_behind : {E : Type 0} {before : E → E → Bool} (o : IsOrder before) (n lows k : ℕ) (xs : List E) → NeverFalls before xs →
    (v : E) (i : ℕ) → i ≤ k →
    (0 < i → entry_before before (Element v) (entry_at (padded n lows k xs) (lows + i)) ≡ false) →
    (i ≤ length xs) × ((m : ℕ) (d : E) → m < i → before v (get_or xs m d) ≡ false)
left_behind o n lows k xs up v zero h f = (zero-le, λ m d s. absurd (not-suc-le-zero s))
left_behind {E} {before} o n lows k xs up v (suc i) h f =
    elim (cases_lt i (length xs)) [
      | inl t ↦ (
        t,
        λ m d s.
            let e = row_element n lows k xs (lows + suc i) i d (omega arith) h t in
            let g : entry_before before (Element v) (Element (get_or xs i d)) ≡ false = rw e at (f (omega arith)) in
            le_trans o (get_or xs m d) (get_or xs i d) v (up m i d (omega arith) t) g,
      )
      | inr l ↦
          let e = row_above n lows k xs (lows + suc i) i (omega arith) (omega arith) in
          let g : entry_before before (Element v) Above ≡ false = rw e at (f (omega arith)) in
          absurd (both_ways true g refl)
    ]

-- how many elements of its list stand behind a side's window
abbrev pub elements_behind : (k : ℕ) → OfSides → OfSides
elements_behind k offsets side = offsets side - belows side k

module _ {E : Type 0} {before : E → E → Bool} (o : IsOrder before) (k : ℕ) (lists : Side → List E) (h : HasRank before k lists)
    (offsets : OfSides) (held : Held before (λ side. row side k (lists side)) (row_length k) offsets 0) where
  -- how many elements of its list stand behind a side's window
  abbrev behind : OfSides
  behind = elements_behind k offsets

  -- the only entry left in a window
  abbrev last : Side → Entry E
  last side = entry_at (row side k (lists side)) (offsets side + 1)

  -- all belows of a row stand behind
  belows_behind : (side : Side) → belows side k ≤ offsets side
  belows_behind B = zero-le
  belows_behind A =
      let n = row_length k in
      let lows = belows A k in
      let fits = rank_fits_row k in
      let sum = held.sum in
      let place = offsets B in
      elim (cases_lt (offsets A) lows) [
        | inr t ↦ t
        | inl t ↦
            let e = row_below n lows k (lists A) (offsets A + 1) (omega arith) (omega arith) in
            let f : entry_before before (last A) (entry_at (row B k (lists B)) place) ≡ false = held.not_after B (omega arith) in
            let g : entry_before before Below (entry_at (row B k (lists B)) place) ≡ false = rw e at f in
            elim (cases_lt (place - 1) (min k (length (lists B)))) [
              | inl s ↦
                  let w = at_index (lists B) (place - 1) (omega arith) in
                  let u : entry_before before Below (Element (get_or (lists B) (place - 1) w.0)) ≡ false
                  = rw (row_element n 0 k (lists B) place (place - 1) w.0 (omega arith) (omega arith) (omega arith)) at g in
                  absurd (both_ways true u refl)
              | inr s ↦
                  let u : entry_before before Below Above ≡ false = rw (row_above n 0 k (lists B) place (place - 1) (omega arith) s) at g in
                  absurd (both_ways true u refl)
            ]
      ]

  -- an offset counts the belows and the elements behind
  pub offset_is : (side : Side) → offsets side ≡ belows side k + behind side
  offset_is side = omega (arith, belows_behind side)

  -- in both lists all but one of k elements stand behind
  pub behind_total : (side : Side) → behind side + behind (other side) + 1 ≡ k
  behind_total A = omega (arith, held.sum, rank_fits_row k, belows_behind A)
  behind_total B = omega (arith, held.sum, rank_fits_row k, belows_behind A)

  -- both lists together have k elements
  enough : (side : Side) → k ≤ length (lists side) + length (lists (other side))
  enough A = h.up_to_all
  enough B = omega (arith, h.up_to_all)

  -- where elements of a list are left, the first of them is the entry left
  last_element : (side : Side) (d : E) → behind side < length (lists side) → last side ≡ Element (get_or (lists side) (behind side) d)
  last_element side d s =
      row_element (row_length k) (belows side k) k (lists side) (offsets side + 1) (behind side) d
      (omega (arith, belows_behind side)) (omega (arith, behind_total side)) s

  -- where none is left, above is the entry left
  last_above : (side : Side) → length (lists side) ≤ behind side → last side ≡ Above
  last_above side s =
      row_above (row_length k) (belows side k) k (lists side) (offsets side + 1) (behind side) (omega (arith, belows_behind side)) (omega arith)

  -- an entry left that the other one is not before is an element, and cuts both lists
  cut_at : (side : Side) → entry_before before (last (other side)) (last side) ≡ false →
      (x : E) × (last side ≡ Element x) × Cut before lists behind x
  cut_at side f =
      elim (cases_lt (behind side) (length (lists side))) [
        | inl s ↦
            let w = at_index (lists side) (behind side) s in
            let x = w.0 in
            let e : last side ≡ Element x = last_element side x s ∙ ap (λ (y : E). Element y) (w.1 x) in
            let over = other side in
            let facing : 0 < behind over → entry_before before (Element x) (entry_at (row over k (lists over)) (belows over k + behind over)) ≡ false
            = λ t. rw (← (offset_is over), ← e) (rw (other-other side) at (held.not_after over (omega (arith, t)))) in
            let most : behind over ≤ k = omega (arith, behind_total side) in
            let left = left_behind o (row_length k) (belows over k) k (lists over) (h.in_order over) x (behind over) most facing in (
              x,
              e,
              record {
                within = both_sides (λ t. behind t ≤ length (lists t)) side (omega arith) left.0;
                low =
                    both_sides (λ t. (i : ℕ) (d : E) → i < behind t → before x (get_or (lists t) i d) ≡ false) side
                    (λ i d l. rw (← (w.1 d)) (h.in_order side i (behind side) d (omega arith) s)) left.1;
                high =
                    both_sides (λ t. (i : ℕ) (d : E) → behind t ≤ i → i < length (lists t) → before (get_or (lists t) i d) x ≡ false) side
                    (λ i d l m. rw (← (w.1 d)) (h.in_order side (behind side) i d l m))
                    (λ i d l m.
                    let g : before (get_or (lists over) (behind over) d) x ≡ false = rw (last_element over d (omega arith), e) at f in
                    le_trans o x (get_or (lists over) (behind over) d) (get_or (lists over) i d) g (h.in_order over (behind over) i d l m));
                at = side;
                before_end = s;
                is = w.1;
              },
            )
        | inr s ↦
            let over = other side in
            elim (cases_lt (behind over) (length (lists over))) [
              | inl t ↦
                  let w = at_index (lists over) (behind over) t in
                  let g : entry_before before (Element (get_or (lists over) (behind over) w.0)) Above ≡ false
                  = rw (last_element over w.0 t, last_above side s) at f in
                  absurd (both_ways true g refl)
              | inr t ↦ absurd (omega (arith, behind_total side, enough side))
            ]
      ]

  -- the lesser of both entries left is an element that cuts both lists
  lesser_cuts : (x : E) × (lesser_entry before (last A) (last B) ≡ Element x) × Cut before lists behind x
  lesser_cuts =
      elim (cases_Bool (entry_before before (last A) (last B))) [
        | inl t ↦
            let c = cut_at A (asymmetric (entry_order o) (last A) (last B) t) in
            (c.0, cond-true (entry_before before (last A) (last B)) (last A) (last B) t ∙ c.1, c.2)
        | inr t ↦
            let c = cut_at B t in
            (c.0, cond-false (entry_before before (last A) (last B)) (last A) (last B) t ∙ c.1, c.2)
      ]

module _ {E : Type 0} {before : E → E → Bool} (o : IsOrder before) (k : ℕ) (lists : Side → List E) (h : HasRank before k lists) where
  -- the offsets that the bisection ends with
  abbrev ends : OfSides
  ends side = offset_after side 0 (halvings k) (pair_verdicts before k lists)

  -- the bisection's result is an element that cuts both lists
  pub result_cuts : (x : E) × (pair_result before k lists ≡ Element x) × Cut before lists (elements_behind k ends) x
  result_cuts = lesser_cuts o k lists h ends (held_at_end o k lists)

  -- a side's last offset counts the belows and the elements behind
  pub end_offset : (side : Side) → ends side ≡ belows side k + elements_behind k ends side
  end_offset = offset_is o k lists h ends (held_at_end o k lists)

  -- at the end, all but one of k elements stand behind
  pub behind_at_end : (side : Side) → elements_behind k ends side + elements_behind k ends (other side) + 1 ≡ k
  behind_at_end = behind_total o k lists h ends (held_at_end o k lists)

  -- what cuts both lists there is of rank k, by counting
  pub cut_of_rank : (x : E) → Cut before lists (elements_behind k ends) x → Counted before k (joint_pair lists) x
  cut_of_rank x c = rw (behind_at_end A) at (cut_counted o lists (elements_behind k ends) x c)

-- the bisection ends with the element of rank k
pub bisection_finds_rank : {E : Type 0} {before : E → E → Bool} → IsOrder before → BisectionFindsRank before
bisection_finds_rank o k lists h =
    let r = result_cuts o k lists h in
    (r.0, r.1, counted_ranked o k (joint_pair lists) r.0 (cut_of_rank o k lists h r.0 r.2))
