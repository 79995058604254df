-- The two bounds of a window decide the rules at the place asked, and a report that passes leaves bounds of the next window.
use Rattle.std.proofs.Common.{◌≡◌, ℕ, suc, ◌+◌, ◌^◌, ◌<◌, ◌≤◌, Bool, true, false, cond, not, ◌&&◌, ◌⊎◌, List, [], ◌∷◌, ◌==◌, nat_lt, refl, inl, inr, add-zero, add-one, arith, pow_pos}
use Rattle.std.proofs.ByRecursion.{All-weaker}
use Rattle.std.proofs.lemmas.Bool.{false≢true, and_parts, and_from, cases_lt, cond_both, not-true, not_from_false, eqb-true, eq-eqb, ltb-true, lt-ltb}
use Rattle.elements.specs.Orders.{IsOrder}
use Rattle.elements.specs.Entries.{entry_before}
use Rattle.elements.specs.declared.entry.Entry.{Entry}
use Rattle.elements.proofs.OrderFacts.{connected, le_trans}
use Rattle.referees.specs.declared.operand.EntryKind.{EntryKind}
use Rattle.referees.specs.declared.operand.EntryKind.TheVariants.{Below as BelowKind, Element as ElementKind, Above as AboveKind}
use Rattle.referees.specs.declared.verdict.PairVerdict.{PairVerdict}
use Rattle.pair.specs.SeatBounds.{ReportedAt, Bound, widest, bounds_after, same_kind, asked_again, passes}
use Rattle.pair.specs.PairReports.{Report, Consistent}
use Rattle.pair.specs.Rows.{halvings, row_length, entry_kind, kind_at}
use Rattle.pair.specs.Bisection.{half, place_asked, moves, moved}
use Rattle.pair.specs.PairLaws.{Bounded, BoundsDecide}
use Rattle.pair.specs.declared.bounds.Bounds.{Bounds}
use Rattle.pair.specs.declared.side.Side.{Side}
use Rattle.pair.proofs.Consistency.{Agree, reported_all, all_reported, none_consistent, report_added, reports_never_fall}
use Rattle.pair.proofs.Logarithms.{half_of_power}
use Rattle.pair.proofs.Nearest.{rules_keep_consistent, consistent_keeps_rules}
use Rattle.pair.proofs.Orders.{entry_order, none_before_below, none_after_above}

-- kinds that pass the test are the same
same_kind_equal : (s t : EntryKind) → same_kind s t ≡ true → s ≡ t
same_kind_equal BelowKind BelowKind e = refl
same_kind_equal BelowKind ElementKind e = absurd (false≢true e)
same_kind_equal BelowKind AboveKind e = absurd (false≢true e)
same_kind_equal ElementKind BelowKind e = absurd (false≢true e)
same_kind_equal ElementKind ElementKind e = refl
same_kind_equal ElementKind AboveKind e = absurd (false≢true e)
same_kind_equal AboveKind BelowKind e = absurd (false≢true e)
same_kind_equal AboveKind ElementKind e = absurd (false≢true e)
same_kind_equal AboveKind AboveKind e = refl

-- a kind passes the test with itself
same_kind_itself : (s : EntryKind) → same_kind s s ≡ true
same_kind_itself BelowKind = refl
same_kind_itself ElementKind = refl
same_kind_itself AboveKind = refl

-- a half is at least 1 and at most the whole, which it is only at size 1
half_within : (size : ℕ) → 0 < size → (0 < half size) × (half size ≤ size) × (half size ≡ size → size ≡ 1)
half_within size h = omega arith

-- what it means that a place was reported before, both ways
again_parts : (n offset size : ℕ) → asked_again n offset size ≡ true → (size ≡ 1) × (offset + 1 < n)
again_parts n offset size t =
    let p = and_parts (size == 1) (nat_lt (offset + 1) n) t in
    (eqb-true size 1 p.0, ltb-true (offset + 1) n p.1)

again_from : (n offset size : ℕ) → size ≡ 1 → offset + 1 < n → asked_again n offset size ≡ true
again_from n offset size e l = and_from (size == 1) (nat_lt (offset + 1) n) (eq-eqb size 1 e) (lt-ltb (offset + 1) n l)

-- not both of two tests pass exactly if the second fails where the first passes
not_both_parts : (x y : Bool) → not (x && y) ≡ true → x ≡ true → y ≡ false
not_both_parts true y t e = not-true y t
not_both_parts false y t e = absurd (false≢true e)

not_both_from : (x y : Bool) → (x ≡ true → y ≡ false) → not (x && y) ≡ true
not_both_from true y f = not_from_false y (f refl)
not_both_from false y f = refl

module _ {E : Type 0} (before : E → E → Bool) (side : Side) (k d offset size : ℕ) (bounds : Bounds E) (e : Entry E) where
  -- an entry is of the kind of its place, and stands between the bounds
  record Passed : Type 0 where
    kind : entry_kind e ≡ kind_at side k d (place_asked offset size)
    not_before_low : entry_before before e bounds.low ≡ false
    not_after_high : entry_before before bounds.high e ≡ false
    high_again : asked_again (row_length k) offset size ≡ true → entry_before before e bounds.high ≡ false

  abbrev same : Bool
  same = same_kind (entry_kind e) (kind_at side k d (place_asked offset size))

  abbrev from_low : Bool
  from_low = not (entry_before before e bounds.low)

  abbrev to_high : Bool
  to_high = not (entry_before before bounds.high e)

  abbrev again : Bool
  again = asked_again (row_length k) offset size

  abbrev at_high : Bool
  at_high = not (again && entry_before before e bounds.high)

  -- that is what its test says, both ways
  passed_parts : passes before side k d offset size bounds e ≡ true → Passed
  passed_parts t =
      let p = and_parts same (from_low && (to_high && at_high)) t in
      let q = and_parts from_low (to_high && at_high) p.1 in
      let r = and_parts to_high at_high q.1 in
      record {
        kind = same_kind_equal (entry_kind e) (kind_at side k d (place_asked offset size)) p.0;
        not_before_low = not-true (entry_before before e bounds.low) q.0;
        not_after_high = not-true (entry_before before bounds.high e) r.0;
        high_again = not_both_parts again (entry_before before e bounds.high) r.1;
      }

  passed_from : Passed → passes before side k d offset size bounds e ≡ true
  passed_from p =
      and_from same (from_low && (to_high && at_high)) (rw p.kind (same_kind_itself (kind_at side k d (place_asked offset size))))
      (and_from from_low (to_high && at_high) (not_from_false (entry_before before e bounds.low) p.not_before_low)
      (and_from to_high at_high (not_from_false (entry_before before bounds.high e) p.not_after_high)
      (not_both_from again (entry_before before e bounds.high) p.high_again)))

module _ {E : Type 0} {before : E → E → Bool} (o : IsOrder before) (side : Side) (k d offset j : ℕ) (bounds : Bounds E) (reports : List (Report E))
    (e : Entry E) (b : Bounded before side k d offset j bounds reports) where
  abbrev n : ℕ
  n = row_length k

  abbrev size : ℕ
  size = 2 ^ j

  -- where the place asked lies
  asked : (offset < place_asked offset size) × (place_asked offset size ≤ offset + size) × (place_asked offset size ≡ offset + size → size ≡ 1)
  asked = let h = half_within size (pow_pos j) in omega (arith, h.0, h.1, h.2)

  -- the new report, and those that the bounds were taken from
  abbrev new : Report E
  new = record { place = place_asked offset size; entry = e }

  abbrev low : Report E
  low = record { place = offset; entry = bounds.low }

  abbrev high : Report E
  high = record { place = offset + size; entry = bounds.high }

  -- a report that passes is consistent with the earlier ones
  passed_consistent : passes before side k d offset size bounds e ≡ true → Consistent before side k d (new ∷ reports)
  passed_consistent t =
      report_added before side k d reports new b.consistent (omega (arith, asked.0)) p.kind (all_reported (Agree before new) reports agrees)
    where
      p : Passed before side k d offset size bounds e
      p = passed_parts before side k d offset size bounds e t

      agrees : (r : Report E) → ReportedAt r.place r.entry reports → Agree before new r
      agrees r i =
          elim (reported_all (λ r. (r.place ≤ offset) ⊎ ((offset + size ≤ r.place) × (offset + size < n))) reports b.bound.outside r i) [
            | inl s ↦
                let one = reported_all (λ r. 1 ≤ r.place) reports b.consistent.from_1 r i in
                let u = reports_never_fall o side k d reports b.consistent r low i (b.bound.low_reported (omega arith)) s in
                record {
                  not_before = λ _. le_trans (entry_order o) r.entry bounds.low e u p.not_before_low;
                  not_after = λ l. absurd (omega (arith, asked.0));
                  same = λ q. absurd (omega (arith, asked.0));
                }
            | inr s ↦
                let at = b.bound.high_reported s.1 in
                let u = reports_never_fall o side k d reports b.consistent high r at i s.0 in
                let v = le_trans (entry_order o) e bounds.high r.entry p.not_after_high u in
                record {
                  not_before = λ l. absurd (omega (arith, asked.1));
                  not_after = λ _. v;
                  same = λ q.
                      let one : size ≡ 1 = asked.2 (omega (arith, asked.1)) in
                      let g = p.high_again (again_from n offset size one (omega (arith, s.1))) in
                      let w = reports_never_fall o side k d reports b.consistent r high i at (omega (arith, asked.1)) in
                      connected (entry_order o) r.entry e v (le_trans (entry_order o) r.entry bounds.high e w g);
                }
          ]

  -- a report that is consistent with the earlier ones passes
  consistent_passes : Consistent before side k d (new ∷ reports) → passes before side k d offset size bounds e ≡ true
  consistent_passes c =
      let rises = reports_never_fall o side k d (new ∷ reports) c in
      let at_new : ReportedAt new.place e (new ∷ reports) = inl (refl, refl) in
      passed_from before side k d offset size bounds e
      (record {
        kind = c.kinds.0;
        not_before_low =
            elim (cases_lt 0 offset) [
              | inl s ↦ rises low new (inr (b.bound.low_reported s)) at_new (omega (arith, asked.0))
              | inr s ↦ rw (b.bound.low_mark (omega arith)) (none_before_below before e)
            ];
        not_after_high =
            elim (cases_lt (offset + size) n) [
              | inl s ↦ rises new high at_new (inr (b.bound.high_reported s)) asked.1
              | inr s ↦ rw (b.bound.high_mark (omega (arith, b.room))) (none_after_above before e)
            ];
        high_again = λ t.
            let s = again_parts n offset size t in
            rises high new (inr (b.bound.high_reported (omega (arith, s.0, s.1)))) at_new (omega (arith, asked.0, s.0));
      })

-- before any report the widest bounds are those of the window
widest_bounded : {E : Type 0} (before : E → E → Bool) (side : Side) (k d : ℕ) → Bounded before side k d 0 (halvings k) widest []
widest_bounded before side k d = record {
  consistent = none_consistent before side k d;
  room = omega arith;
  bound = record {
    outside = tt;
    low_reported = λ l. absurd (omega arith);
    low_mark = λ _. refl;
    high_reported = λ l. absurd (omega arith);
    high_mark = λ _. refl;
  };
}

module _ {E : Type 0} (n offset h : ℕ) (pos : 0 < h) (bounds : Bounds E) (reports : List (Report E)) (e : Entry E)
    (room : offset + (h + h) ≤ n) (b : Bound n offset (h + h) bounds reports) where
  -- where the last entry of a window's lower half is reported, it bounds both halves
  half_bound : (up : Bool) →
      Bound n (offset + cond up h 0) h (cond up (record { low = e; high = bounds.high }) (record { low = bounds.low; high = e }))
      (record { place = offset + h; entry = e } ∷ reports)
  half_bound true =
      let z : offset + (h + h) ≡ offset + h + h = omega arith in
      record {
        outside = (
          inl (omega arith),
          All-weaker (λ r. (r.place ≤ offset) ⊎ ((offset + (h + h) ≤ r.place) × (offset + (h + h) < n)))
              (λ r. (r.place ≤ offset + h) ⊎ ((offset + h + h ≤ r.place) × (offset + h + h < n)))
              (λ r w. elim w [ inl s ↦ inl (omega arith) | inr s ↦ inr (omega arith) ]) reports b.outside,
        );
        low_reported = λ _. inl (refl, refl);
        low_mark = λ q. absurd (omega arith);
        high_reported = λ l. inr (rw z at (b.high_reported (omega arith)));
        high_mark = λ q. b.high_mark (omega arith);
      }
  half_bound false =
      let down : Bound n offset h (record { low = bounds.low; high = e }) (record { place = offset + h; entry = e } ∷ reports)
      = record {
        outside = (
          inr (omega arith),
          All-weaker (λ r. (r.place ≤ offset) ⊎ ((offset + (h + h) ≤ r.place) × (offset + (h + h) < n)))
              (λ r. (r.place ≤ offset) ⊎ ((offset + h ≤ r.place) × (offset + h < n)))
              (λ r w. elim w [ inl s ↦ inl s | inr s ↦ inr (omega arith) ]) reports b.outside,
        );
        low_reported = λ s. inr (b.low_reported s);
        low_mark = b.low_mark;
        high_reported = λ _. inl (refl, refl);
        high_mark = λ q. absurd (omega arith);
      } in
      rw (add-zero offset) down

-- after a report that passes, the verdict on it leaves bounds of the new window
halved_bounded : {E : Type 0} {before : E → E → Bool} (o : IsOrder before) (side : Side) (k d offset j : ℕ)
    (bounds : Bounds E) (reports : List (Report E)) (e : Entry E) (verdict : PairVerdict) →
    Bounded before side k d offset (suc j) bounds reports → passes before side k d offset (2 ^ suc j) bounds e ≡ true →
    Bounded before side k d (moved side verdict (2 ^ j) offset) j (bounds_after side verdict e bounds)
    (record { place = offset + 2 ^ j; entry = e } ∷ reports)
halved_bounded {E} {before} o side k d offset j bounds reports e verdict b t =
    let h = 2 ^ j in
    let n = row_length k in
    let up = moves side verdict in
    let z : 2 ^ suc j ≡ h + h = omega arith in
    let room : offset + (h + h) ≤ n = omega (arith, b.room) in
    record {
      consistent = rw (half_of_power j) at (passed_consistent o side k d offset (suc j) bounds reports e b t);
      room = cond_both up h 0 (λ m. offset + m + h ≤ n) (λ _. omega arith) (λ _. omega arith);
      bound = half_bound n offset h (pow_pos j) bounds reports e room (rw z at b.bound) up;
    }

-- the two bounds of a window decide the rules, from the first window to the last
pub bounds_decide : {E : Type 0} {before : E → E → Bool} → IsOrder before → BoundsDecide before
bounds_decide {E} {before} o = record {
  opened = widest_bounded before;
  passed = λ side k d offset j bounds reports e b t.
      consistent_keeps_rules side k d reports (record { place = place_asked offset (2 ^ j); entry = e })
      (passed_consistent o side k d offset j bounds reports e b t);
  passing = λ side k d offset j bounds reports e b f.
      consistent_passes o side k d offset j bounds reports e b
      (rules_keep_consistent side k d reports (record { place = place_asked offset (2 ^ j); entry = e }) o b.consistent
      (let h = half_within (2 ^ j) (pow_pos j) in omega (arith, h.0)) f);
  halved = λ side k d offset j bounds reports e verdict b t.
      halved_bounded o side k d offset j bounds reports e verdict (rw (add-one j) at b) (rw (add-one j) at t);
}
