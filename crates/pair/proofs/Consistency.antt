-- Consistent reports: when one more is consistent with them, and what is left without the newest.
use Rattle.std.proofs.Common.{◌≡◌, ℕ, ◌<◌, ◌≤◌, Bool, false, List, [], ◌∷◌, sym, refl, subst, inl, inr, arith}
use Rattle.std.specs.List.{AllByRecursion as Each}
use Rattle.std.proofs.ByRecursion.{All-weaker}
use Rattle.std.proofs.lemmas.Bool.{cases_lt}
use Rattle.elements.specs.Orders.{IsOrder}
use Rattle.elements.specs.Entries.{entry_before}
use Rattle.elements.specs.declared.entry.Entry.{Entry}
use Rattle.elements.proofs.OrderFacts.{irreflexive}
use Rattle.pair.specs.SeatBounds.{ReportedAt}
use Rattle.pair.specs.PairReports.{Report, Consistent}
use Rattle.pair.specs.Rows.{entry_kind, kind_at}
use Rattle.pair.specs.declared.side.Side.{Side}
use Rattle.pair.proofs.Orders.{entry_order}

-- what follows from two facts of an element holds of all elements, if both do
all_from_two : {X : Type 0} (P Q R : X → Type 0) → ((x : X) → P x → Q x → R x) → (xs : List X) → Each P xs → Each Q xs → Each R xs
all_from_two P Q R f [] p q = tt
all_from_two P Q R f (x ∷ xs) p q = (f x p.0 q.0, all_from_two P Q R f xs p.1 q.1)

module _ {E : Type 0} where
  -- what holds of all reports holds of one among them
  pub reported_all : (P : Report E → Type 0) (reports : List (Report E)) → Each P reports →
      (r : Report E) → ReportedAt r.place r.entry reports → P r
  reported_all P [] a r i = absurd i
  reported_all P (s ∷ reports) a r i =
      elim i [
        | inl e ↦
            subst (λ (p : ℕ). P (record { place = p; entry = r.entry })) e.0
            (subst (λ (f : Entry E). P (record { place = s.place; entry = f })) e.1 a.0)
        | inr t ↦ reported_all P reports a.1 r t
      ]

  -- what holds of each report among them holds of all
  pub all_reported : (P : Report E → Type 0) (reports : List (Report E)) →
      ((r : Report E) → ReportedAt r.place r.entry reports → P r) → Each P reports
  all_reported P [] f = tt
  all_reported P (s ∷ reports) f = (f s (inl (refl, refl)), all_reported P reports (λ r i. f r (inr i)))

-- where the second report is at a higher place, its entry is not before the first one's
abbrev pub Rises : {E : Type 0} → (E → E → Bool) → Report E → Report E → Type 0
Rises before r s = r.place < s.place → entry_before before s.entry r.entry ≡ false

-- two reports at one place have the same entry
abbrev pub Same : {E : Type 0} → Report E → Report E → Type 0
Same r s = r.place ≡ s.place → r.entry ≡ s.entry

module _ {E : Type 0} (before : E → E → Bool) where
  -- two reports do not contradict each other
  pub record Agree (r s : Report E) : Type 0 where
    pub not_before : Rises before s r
    pub not_after : Rises before r s
    pub same : Same s r

  -- no reports are consistent
  pub none_consistent : (side : Side) (k d : ℕ) → Consistent before side k d []
  none_consistent side k d = record { from_1 = tt; kinds = tt; rise = tt; same = tt }

  module _ (side : Side) (k d : ℕ) (reports : List (Report E)) (r : Report E) where
    -- a report of its place's kind that agrees with consistent ones is consistent with them
    pub report_added : Consistent before side k d reports → 1 ≤ r.place → entry_kind r.entry ≡ kind_at side k d r.place →
        Each (Agree r) reports → Consistent before side k d (r ∷ reports)
    report_added c one kind agree = record {
      from_1 = (one, c.from_1);
      kinds = (kind, c.kinds);
      rise = (
        (λ l. absurd (omega arith), All-weaker (Agree r) (Rises before r) (λ s a. a.not_after) reports agree),
        all_from_two (Agree r) (λ s. Each (Rises before s) reports) (λ s. Each (Rises before s) (r ∷ reports))
            (λ s a h. (a.not_before, h)) reports agree c.rise,
      );
      same = (
        (λ e. refl, All-weaker (Agree r) (Same r) (λ s a e. sym (a.same (sym e))) reports agree),
        all_from_two (Agree r) (λ s. Each (Same s) reports) (λ s. Each (Same s) (r ∷ reports))
            (λ s a h. (a.same, h)) reports agree c.same,
      );
    }

    -- consistent reports still are without the newest
    pub newest_removed : Consistent before side k d (r ∷ reports) → Consistent before side k d reports
    newest_removed c = record {
      from_1 = c.from_1.1;
      kinds = c.kinds.1;
      rise =
          All-weaker (λ s. Each (Rises before s) (r ∷ reports)) (λ s. Each (Rises before s) reports)
          (λ s h. h.1) reports c.rise.1;
      same =
          All-weaker (λ s. Each (Same s) (r ∷ reports)) (λ s. Each (Same s) reports)
          (λ s h. h.1) reports c.same.1;
    }

    -- the newest of consistent reports agrees with all others
    pub newest_agrees : Consistent before side k d (r ∷ reports) → Each (Agree r) reports
    newest_agrees c =
        all_reported (Agree r) reports
        (λ s i.
        let rises = reported_all (λ s. Each (Rises before s) (r ∷ reports)) reports c.rise.1 s i in
        record {
          not_before = rises.0;
          not_after = reported_all (Rises before r) reports c.rise.0.1 s i;
          same = λ e. sym (reported_all (Same r) reports c.same.0.1 s i (sym e));
        })

-- consistent reports never fall with their places
pub reports_never_fall : {E : Type 0} {before : E → E → Bool} (o : IsOrder before) (side : Side) (k d : ℕ) (reports : List (Report E)) →
    Consistent before side k d reports → (r s : Report E) → ReportedAt r.place r.entry reports → ReportedAt s.place s.entry reports →
    r.place ≤ s.place → entry_before before s.entry r.entry ≡ false
reports_never_fall {E} {before} o side k d reports c r s i j h =
    elim (cases_lt r.place s.place) [
      | inl t ↦
          let rises = reported_all (λ r. Each (Rises before r) reports) reports c.rise r i in
          reported_all (Rises before r) reports rises s j t
      | inr t ↦
          let at = reported_all (λ r. Each (Same r) reports) reports c.same r i in
          let e = reported_all (Same r) reports at s j (omega arith) in
          rw e (irreflexive (entry_order o) s.entry)
    ]
