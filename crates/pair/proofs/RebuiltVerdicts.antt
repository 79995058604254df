-- Each seat alone rebuilds the verdicts from its row and the element of rank k.
use Rattle.std.proofs.Common.{◌≡◌, ℕ, zero, suc, ◌+◌, ◌-◌, ◌^◌, ◌<◌, ◌≤◌, min, Bool, true, false, cond, leb, List, ◌∷◌, length, get_or, sym, refl, ap, ◌∙◌, subst, inl, inr, arith, length-append, pow_pos}
use Rattle.std.proofs.lemmas.List.{get_or_append_left, get_or-append-add}
use Rattle.std.proofs.lemmas.Bool.{cases_lt, cases_order, le-leb, lt-leb, true_from_ne_false}
use Rattle.elements.specs.Orders.{IsOrder}
use Rattle.elements.specs.Entries.{entry_before}
use Rattle.elements.specs.declared.entry.Entry.{Entry}
use Rattle.elements.specs.declared.entry.Entry.TheVariants.{Element}
use Rattle.elements.proofs.OrderFacts.{connected}
use Rattle.elements.proofs.RankFacts.{counted_unique, ranked_counted}
use Rattle.referees.specs.declared.verdict.PairVerdict.{PairVerdict}
use Rattle.referees.specs.declared.verdict.PairVerdict.TheVariants.{Before, NotBefore}
use Rattle.pair.specs.Rebuilds.{written, rebuilt_from}
use Rattle.pair.specs.Rows.{halvings, row_length, belows, padded, row, entry_at}
use Rattle.pair.specs.Bisection.{OfSides, moves, moved, judged_verdicts, offset_after, compared, pair_verdicts, joint_pair}
use Rattle.pair.specs.PairLaws.{AllDifferent, HasRank, SeatsRebuild}
use Rattle.pair.specs.declared.side.Side.{Side}
use Rattle.pair.specs.declared.side.Side.TheVariants.{A, B}
use Rattle.pair.proofs.BisectionSteps.{within_window}
use Rattle.pair.proofs.Cuts.{Cut, elements_behind, result_cuts, end_offset, behind_at_end, cut_of_rank}
use Rattle.pair.proofs.Rows.{row_below, row_element, row_above}

-- what a seat writes for a verdict's move is that verdict
written-moves : (side : Side) (verdict : PairVerdict) → written side (moves side verdict) ≡ verdict
written-moves A Before = refl
written-moves A NotBefore = refl
written-moves B Before = refl
written-moves B NotBefore = refl

-- a window moves up exactly if the place asked is at most its last offset
moves_by_end : (up : Bool) (offset h last : ℕ) →
    offset + cond up h 0 ≤ last → last < offset + cond up h 0 + h → leb (offset + h) last ≡ up
moves_by_end true offset h last p q = le-leb (offset + h) last p
moves_by_end false offset h last p q = lt-leb (offset + h) last (omega arith)

-- a seat whose entries are before x exactly at the places up to its last offset writes the verdicts
writes_verdicts : {E : Type 0} (before : E → E → Bool) (judge : OfSides → PairVerdict) (side : Side)
    (entries : List (Entry E)) (x : E) (last : ℕ) →
    ((place : ℕ) → 1 ≤ place → entry_before before (entry_at entries place) (Element x) ≡ leb place last) → (offsets : OfSides) (j : ℕ) →
    offset_after side (offsets side) j (judged_verdicts judge offsets j) ≡ last →
    rebuilt_from before side entries x (offsets side) j ≡ judged_verdicts judge offsets j
writes_verdicts before judge side entries x last h offsets zero e = refl
writes_verdicts before judge side entries x last h offsets (suc j) e =
    let verdict = judge (λ s. offsets s + 2 ^ j) in
    let next = λ (s : Side). moved s verdict (2 ^ j) (offsets s) in
    let w = within_window side (next side) j (judged_verdicts judge next j) in
    let place = offsets side + 2 ^ j in
    let up = moves side verdict in
    let judged : leb place last ≡ up = moves_by_end up (offsets side) (2 ^ j) last (omega (arith, w.0, e)) (omega (arith, w.1, e)) in
    let same : written side (entry_before before (entry_at entries place) (Element x)) ≡ verdict
    = ap (written side) (h place (omega (arith, pow_pos j)) ∙ judged) ∙ written-moves side verdict in
    ap {B = List PairVerdict} (λ v. v ∷ rebuilt_from before side entries x (moved side v (2 ^ j) (offsets side)) j) same
    ∙ ap {B = List PairVerdict} (λ vs. verdict ∷ vs) (writes_verdicts before judge side entries x last h next j e)

-- where the first i elements of a list are before x, and no others, its row has entries before x exactly up to place lows + i
before_by_place : {E : Type 0} (before : E → E → Bool) (n lows k : ℕ) (xs : List E) (i : ℕ) (x : E) → i ≤ k → i ≤ length xs →
    ((m : ℕ) (d : E) → m < i → before (get_or xs m d) x ≡ true) →
    ((m : ℕ) (d : E) → i ≤ m → m < length xs → before (get_or xs m d) x ≡ false) →
    (place : ℕ) → 1 ≤ place → entry_before before (entry_at (padded n lows k xs) place) (Element x) ≡ leb place (lows + i)
before_by_place before n lows k xs i x most fits low high place h =
    let last = lows + i in
    elim (cases_lt lows place) [
      | inr s ↦ rw (row_below n lows k xs place h s) (sym (le-leb place last (omega arith)))
      | inl s ↦
          let m = place - lows - 1 in
          elim (cases_lt m (min k (length xs))) [
            | inr t ↦ rw (row_above n lows k xs place m (omega arith) t) (sym (lt-leb place last (omega arith)))
            | inl t ↦
                rw (row_element n lows k xs place m x (omega arith) (omega arith) (omega arith))
                (elim (cases_lt m i) [
                  | inl r ↦ low m x r ∙ sym (le-leb place last (omega arith))
                  | inr r ↦ high m x r (omega arith) ∙ sym (lt-leb place last (omega arith))
                ])
          ]
    ]

module _ {E : Type 0} {before : E → E → Bool} (o : IsOrder before) (lists : Side → List E) (behind : OfSides) (x : E)
    (c : Cut before lists behind x) (apart : AllDifferent (joint_pair lists)) where
  -- where an element of a list stands among the joint elements
  abbrev joint_index : Side → ℕ → ℕ
  joint_index A i = i
  joint_index B i = length (lists A) + i

  -- it is the joint element at that index
  joint_element : (side : Side) (i : ℕ) (d : E) → i < length (lists side) →
      (get_or (joint_pair lists) (joint_index side i) d ≡ get_or (lists side) i d) × (joint_index side i < length (joint_pair lists))
  joint_element A i d h = (get_or_append_left (lists A) (lists B) d i h, omega (arith, length-append (lists A) (lists B)))
  joint_element B i d h = (get_or-append-add (lists A) (lists B) i d, omega (arith, length-append (lists A) (lists B)))

  -- equal joint elements stand at one index
  one_index : (i j : ℕ) (d : E) → i < length (joint_pair lists) → j < length (joint_pair lists) →
      get_or (joint_pair lists) i d ≡ get_or (joint_pair lists) j d → i ≡ j
  one_index i j d h l e =
      elim (cases_order i j) [
        | inl t ↦ t
        | inr t ↦ elim t [ inl u ↦ absurd (apart i j d u l e) | inr u ↦ absurd (apart j i d u h (sym e)) ]
      ]

  -- what stands behind is not where x is
  not_at_cut : (side at : Side) (i : ℕ) → i < behind side → behind at < length (lists at) → joint_index side i ≡ joint_index at (behind at) → ⊥
  not_at_cut A A i h l e = omega arith
  not_at_cut A B i h l e = omega (arith, c.within A)
  not_at_cut B A i h l e = omega arith
  not_at_cut B B i h l e = omega arith

  -- what stands behind is before x
  low_before : (side : Side) (i : ℕ) (d : E) → i < behind side → before (get_or (lists side) i d) x ≡ true
  low_before side i d h =
      let y = get_or (lists side) i d in
      let here = joint_element side i d (omega (arith, c.within side)) in
      let there = joint_element c.at (behind c.at) d c.before_end in
      true_from_ne_false (before y x) (λ f.
      let same : x ≡ y = connected o x y (c.low side i d h) f in
      let equal = here.0 ∙ sym same ∙ sym (c.is d) ∙ sym there.0 in
      not_at_cut side c.at i h c.before_end (one_index (joint_index side i) (joint_index c.at (behind c.at)) d here.1 there.1 equal))

-- where no two joint elements are equal, each seat rebuilds the verdicts from the element of rank k
pub seats_rebuild : {E : Type 0} {before : E → E → Bool} → IsOrder before → SeatsRebuild before
seats_rebuild {E} {before} o k lists up apart x r side =
    let joint = joint_pair lists in
    let total : k ≤ length (lists A) + length (lists B) = omega (arith, r.last, length-append (lists A) (lists B)) in
    let h : HasRank before k lists = record { in_order = up; from_1 = r.first; up_to_all = total } in
    let ends = λ (s : Side). offset_after s 0 (halvings k) (pair_verdicts before k lists) in
    let behind = elements_behind k ends in
    let w = result_cuts o k lists h in
    let same : w.0 ≡ x = counted_unique o k joint w.0 x (cut_of_rank o k lists h w.0 w.2) (ranked_counted o k joint x r) in
    let c : Cut before lists behind x = subst (Cut before lists behind) same w.2 in
    let most : behind side ≤ k = omega (arith, behind_at_end o k lists h side) in
    let judged = before_by_place before (row_length k) (belows side k) k (lists side) (behind side) x most (c.within side)
    (low_before o lists behind x c apart side) (c.high side) in
    writes_verdicts before (compared before k lists) side (row side k (lists side)) x (ends side)
    (λ place one. rw (end_offset o k lists h side) (judged place one)) (λ s. 0) (halvings k) refl
