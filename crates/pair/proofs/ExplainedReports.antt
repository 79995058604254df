-- Reports are consistent exactly if some list explains them.
use Rattle.std.proofs.Common.{◌≡◌, ℕ, ◌+◌, ◌-◌, ◌<◌, ◌≤◌, min, Bool, false, List, [], ◌∷◌, length, get_or, replicate, sym, refl, ap, ◌∙◌, subst, inl, inr, arith}
use lib.ListN.{length-replicate, get_or-replicate}
use Rattle.std.specs.List.{AllByRecursion as Each}
use Rattle.std.proofs.lemmas.Bool.{cases_order, cond-false}
use Rattle.elements.specs.Orders.{IsOrder}
use Rattle.elements.specs.declared.entry.Entry.{Entry}
use Rattle.elements.specs.declared.entry.Entry.TheVariants.{Below, Element, Above}
use Rattle.elements.proofs.OrderFacts.{irreflexive}
use Rattle.pair.specs.SeatBounds.{ReportedAt}
use Rattle.pair.specs.PairReports.{Report, Explains, Consistent}
use Rattle.pair.specs.Rows.{row_length, belows, row, entry_at, entry_kind, kind_at}
use Rattle.pair.specs.PairLaws.{ExplainedIfConsistent}
use Rattle.pair.specs.declared.side.Side.{Side}
use Rattle.pair.proofs.ClampedLists.{clamp, length-clamp, clamp_at, clamp_low, clamp_high, clamp_never_falls}
use Rattle.pair.proofs.Consistency.{Rises, Same, Agree, reported_all, all_reported, newest_removed, newest_agrees}
use Rattle.pair.proofs.Rows.{row_below, row_element, row_above, row_never_falls, kind_cases, Stands, place_stands, row_kind}

module _ {E : Type 0} {before : E → E → Bool} (o : IsOrder before) (side : Side) (k d : ℕ) where
  -- the length of a side's row, and its belows
  abbrev n : ℕ
  n = row_length k

  abbrev lows : ℕ
  lows = belows side k

  -- where a list's row shows a report that agrees with v at a place, it still does with v put there
  still_shown : (place : ℕ) (v : E) (xs : List E) → length xs ≡ d → lows < place → place ≤ lows + min k d → (r : Report E) → 1 ≤ r.place →
      entry_at (row side k xs) r.place ≡ r.entry → Agree before (record { place = place; entry = Element v }) r →
      entry_at (row side k (clamp before v (place - lows - 1) xs)) r.place ≡ r.entry
  still_shown place v xs e low high r one shown agree =
      let i = place - lows - 1 in
      let m = r.place - lows - 1 in
      let ys = clamp before v i xs in
      let len : length ys ≡ d = length-clamp before v i xs ∙ e in
      elim (kind_cases lows k d r.place) [
        | inl s ↦ row_below n lows k ys r.place one s.0 ∙ sym (row_below n lows k xs r.place one s.0) ∙ shown
        | inr t ↦ elim t [
          | inr s ↦
              row_above n lows k ys r.place m (omega arith) (omega arith)
              ∙ sym (row_above n lows k xs r.place m (omega arith) (omega arith)) ∙ shown
          | inl s ↦
              let was = get_or xs m v in
              let f : r.entry ≡ Element was = sym shown ∙ row_element n lows k xs r.place m v (omega arith) (omega arith) (omega arith) in
              row_element n lows k ys r.place m v (omega arith) (omega arith) (omega arith)
              ∙ elim (cases_order m i) [
                | inl w ↦
                    let g : r.entry ≡ Element v = agree.same (omega arith) in
                    ap (λ (z : E). Element z) (rw w (clamp_at before v i xs v (omega arith))) ∙ sym g
                | inr u ↦ elim u [
                  | inl w ↦
                      let g : before v was ≡ false = rw f at (agree.not_before (omega arith)) in
                      ap (λ (z : E). Element z) (clamp_low before v i xs m v w (omega arith) ∙ cond-false (before v was) v was g) ∙ sym f
                  | inr w ↦
                      let g : before was v ≡ false = rw f at (agree.not_after (omega arith)) in
                      ap (λ (z : E). Element z) (clamp_high before v i xs m v w (omega arith) ∙ cond-false (before was v) v was g) ∙ sym f
                ]
              ]
        ]
      ]

  -- some list explains consistent reports; any element stands in where none was reported
  pub some_list_explains : E → (reports : List (Report E)) → Consistent before side k d reports →
      (xs : List E) × Explains before side k d reports xs
  some_list_explains any [] c = (
    replicate d any,
    record {
      declared = length-replicate d any;
      in_order = λ i j e h l.
          let len = length-replicate d any in
          rw (get_or-replicate d i any e (omega arith), get_or-replicate d j any e (omega arith)) (irreflexive o any);
      shows = tt;
    },
  )
  some_list_explains any (r ∷ reports) c =
      let earlier = some_list_explains any reports (newest_removed before side k d reports r c) in
      added r.entry refl (place_stands lows k d r.place (entry_kind r.entry) c.kinds.0) earlier
    where
      -- a list that explains the earlier reports explains r too if its row shows it
      shown_too : (w : (xs : List E) × Explains before side k d reports xs) → entry_at (row side k w.0) r.place ≡ r.entry →
          (xs : List E) × Explains before side k d (r ∷ reports) xs
      shown_too w t = (w.0, record { declared = w.1.declared; in_order = w.1.in_order; shows = (t, w.1.shows) })

      -- for a mark that is the list of the earlier reports, for an element the list with it put in
      added : (e : Entry E) → r.entry ≡ e → Stands lows k d r.place (entry_kind e) → ((xs : List E) × Explains before side k d reports xs) →
          (xs : List E) × Explains before side k d (r ∷ reports) xs
      added Below t s w = shown_too w (row_below n lows k w.0 r.place c.from_1.0 s ∙ sym t)
      added (Element v) t s w =
          let xs = w.0 in
          let i = r.place - lows - 1 in
          let ys = clamp before v i xs in
          let len : length xs ≡ d = w.1.declared in
          let with_entry = λ (e : Entry E). Each (Agree before (record { place = r.place; entry = e })) reports in
          let agree = subst with_entry t (newest_agrees before side k d reports r c) in (
            ys,
            record {
              declared = length-clamp before v i xs ∙ len;
              in_order = clamp_never_falls o v i xs (omega arith) w.1.in_order;
              shows = (
                row_element n lows k ys r.place i v (omega arith) (omega arith) (omega (arith, length-clamp before v i xs))
                    ∙ ap (λ (z : E). Element z) (clamp_at before v i xs v (omega arith)) ∙ sym t,
                all_reported (λ q. entry_at (row side k ys) q.place ≡ q.entry) reports
                    (λ q m.
                    still_shown r.place v xs len s.0 s.1 q
                    (reported_all (λ q. 1 ≤ q.place) reports c.from_1.1 q m)
                    (reported_all (λ q. entry_at (row side k xs) q.place ≡ q.entry) reports w.1.shows q m)
                    (reported_all (Agree before (record { place = r.place; entry = Element v })) reports agree q m)),
              );
            },
          )
      added Above t s w =
          let len : length w.0 ≡ d = w.1.declared in
          shown_too w (row_above n lows k w.0 r.place (r.place - lows - 1) (omega arith) (omega arith) ∙ sym t)

  -- reports that a list explains are consistent
  pub explained_consistent : (reports : List (Report E)) → Each (λ r. 1 ≤ r.place) reports → (xs : List E) → Explains before side k d reports xs →
      Consistent before side k d reports
  explained_consistent reports pos xs x =
      let entry = entry_at (row side k xs) in
      let shown : (r : Report E) → ReportedAt r.place r.entry reports → entry r.place ≡ r.entry
      = reported_all (λ r. entry r.place ≡ r.entry) reports x.shows in
      let from_1 = reported_all (λ r. 1 ≤ r.place) reports pos in
      record {
        from_1 = pos;
        kinds =
            all_reported (λ r. entry_kind r.entry ≡ kind_at side k d r.place) reports
            (λ r i. rw (← (shown r i)) (row_kind n lows k d xs x.declared r.place (from_1 r i)));
        rise =
            all_reported (λ r. Each (Rises before r) reports) reports
            (λ r i. all_reported (Rises before r) reports
            (λ s j h. rw (← (shown r i), ← (shown s j)) (row_never_falls n lows k xs before x.in_order r.place s.place (from_1 r i) (omega arith))));
        same =
            all_reported (λ r. Each (Same r) reports) reports
            (λ r i. all_reported (Same r) reports (λ s j e. sym (shown r i) ∙ ap entry e ∙ shown s j));
      }

-- reports are consistent exactly if some list explains them
pub explained_if_consistent : {E : Type 0} {before : E → E → Bool} → IsOrder before → E → ExplainedIfConsistent before
explained_if_consistent o any = record {
  explained = λ side k d. some_list_explains o side k d any;
  consistent = λ side k d. explained_consistent o side k d;
}
