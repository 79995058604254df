-- The rules for a new report look at the nearest places only, and decide whether it is consistent with all reports.
use Rattle.std.proofs.Common.{◌≡◌, ℕ, ◌-◌, ◌<◌, ◌≤◌, Bool, false, ◌⊎◌, List, [], ◌∷◌, refl, inl, inr, arith}
use Rattle.std.specs.List.{AllByRecursion as Each}
use Rattle.std.proofs.ByRecursion.{All-weaker}
use Rattle.std.proofs.lemmas.Bool.{cases_lt}
use Rattle.elements.specs.Orders.{IsOrder}
use Rattle.elements.specs.Entries.{entry_before}
use Rattle.elements.proofs.OrderFacts.{le_trans}
use Rattle.pair.specs.SeatBounds.{ReportedAt}
use Rattle.pair.specs.PairReports.{Report, Explains, Consistent, NearestLower, NearestHigher, KeepsRules}
use Rattle.pair.specs.PairLaws.{NearestPlacesDecide, HonestIsAccepted}
use Rattle.pair.specs.Rows.{row, entry_at}
use Rattle.pair.proofs.ExplainedReports.{explained_consistent}
use Rattle.pair.specs.declared.side.Side.{Side}
use Rattle.pair.proofs.Consistency.{Same, Agree, reported_all, all_reported, report_added, newest_agrees, reports_never_fall}
use Rattle.pair.proofs.Orders.{entry_order}

-- by any measure of places: it is 0 at all reports, or among those where it is not, it is least at one
least_by : {E : Type 0} (away : ℕ → ℕ) (reports : List (Report E)) →
    Each (λ r. away r.place ≡ 0) reports
    ⊎ ((r : Report E) × ReportedAt r.place r.entry reports × (0 < away r.place) × Each (λ s. 0 < away s.place → away r.place ≤ away s.place) reports)
least_by away [] = inl tt
least_by {E} away (r ∷ reports) =
    let From = λ (t s : Report E). 0 < away s.place → away t.place ≤ away s.place in
    elim (cases_lt 0 (away r.place)) [
      | inl t ↦
          elim (least_by away reports) [
            | inl a ↦ inr (r, inl (refl, refl), t, ((λ _. omega arith), All-weaker (λ s. away s.place ≡ 0) (From r) (λ s h l. omega arith) reports a))
            | inr w ↦ elim (cases_lt (away r.place) (away w.0.place)) [
              | inl u ↦ inr (r, inl (refl, refl), t, ((λ _. omega arith), All-weaker (From w.0) (From r) (λ s h l. omega (arith, h l)) reports w.3))
              | inr u ↦ inr (w.0, inr w.1, w.2, ((λ _. u), w.3))
            ]
          ]
      | inr t ↦
          elim (least_by away reports) [
            | inl a ↦ inl (omega arith, a)
            | inr w ↦ inr (w.0, inr w.1, w.2, ((λ l. absurd (omega arith)), w.3))
          ]
    ]

module _ {E : Type 0} (place : ℕ) (reports : List (Report E)) where
  -- no report is at a lower place, or one is at the nearest lower place
  some_nearest_lower : Each (λ r. place ≤ r.place) reports ⊎ ((r : Report E) × ReportedAt r.place r.entry reports × NearestLower reports place r)
  some_nearest_lower =
      elim (least_by (λ q. place - q) reports) [
        | inl a ↦ inl (All-weaker (λ s. place - s.place ≡ 0) (λ s. place ≤ s.place) (λ s h. omega arith) reports a)
        | inr w ↦
            let t = w.0 in
            let low : t.place < place = omega (arith, w.2) in
            inr (
              t,
              w.1,
              (
                low,
                All-weaker (λ s. 0 < place - s.place → place - t.place ≤ place - s.place) (λ s. s.place < place → s.place ≤ t.place)
                    (λ s h l. omega (arith, h (omega arith))) reports w.3,
              ),
            )
      ]

  -- no report is at a higher place, or one is at the nearest higher place
  some_nearest_higher : Each (λ r. r.place ≤ place) reports ⊎ ((r : Report E) × ReportedAt r.place r.entry reports × NearestHigher reports place r)
  some_nearest_higher =
      elim (least_by (λ q. q - place) reports) [
        | inl a ↦ inl (All-weaker (λ s. s.place - place ≡ 0) (λ s. s.place ≤ place) (λ s h. omega arith) reports a)
        | inr w ↦
            let t = w.0 in
            let high : place < t.place = omega (arith, w.2) in
            inr (
              t,
              w.1,
              (
                high,
                All-weaker (λ s. 0 < s.place - place → t.place - place ≤ s.place - place) (λ s. place < s.place → t.place ≤ s.place)
                    (λ s h l. omega (arith, h (omega arith))) reports w.3,
              ),
            )
      ]

-- r is not before an entry at the nearest lower place, nor after one at the nearest higher place
abbrev NotBeforeLower : {E : Type 0} → (E → E → Bool) → List (Report E) → Report E → Report E → Type 0
NotBeforeLower before reports r s = NearestLower reports r.place s → entry_before before r.entry s.entry ≡ false

abbrev NotAfterHigher : {E : Type 0} → (E → E → Bool) → List (Report E) → Report E → Report E → Type 0
NotAfterHigher before reports r s = NearestHigher reports r.place s → entry_before before s.entry r.entry ≡ false

module _ {E : Type 0} {before : E → E → Bool} (side : Side) (k d : ℕ) (reports : List (Report E)) (r : Report E) where
  -- a report that keeps the rules is consistent with all
  pub rules_keep_consistent : IsOrder before → Consistent before side k d reports → 1 ≤ r.place → KeepsRules before side k d reports r →
      Consistent before side k d (r ∷ reports)
  rules_keep_consistent o c one f = report_added before side k d reports r c one f.kind (all_reported (Agree before r) reports agrees)
    where
      agrees : (s : Report E) → ReportedAt s.place s.entry reports → Agree before r s
      agrees s i = record {
        not_before = λ l. elim (some_nearest_lower r.place reports) [
          | inl a ↦ absurd (omega (arith, reported_all (λ t. r.place ≤ t.place) reports a s i))
          | inr w ↦
              let t = w.0 in
              let near = reported_all (λ q. q.place < r.place → q.place ≤ t.place) reports w.2.1 s i l in
              let u = reports_never_fall o side k d reports c s t i w.1 near in
              let v = reported_all (NotBeforeLower before reports r) reports f.not_before_lower t w.1 w.2 in
              le_trans (entry_order o) s.entry t.entry r.entry u v
        ];
        not_after = λ l. elim (some_nearest_higher r.place reports) [
          | inl a ↦ absurd (omega (arith, reported_all (λ t. t.place ≤ r.place) reports a s i))
          | inr w ↦
              let t = w.0 in
              let near = reported_all (λ q. r.place < q.place → t.place ≤ q.place) reports w.2.1 s i l in
              let u = reports_never_fall o side k d reports c t s w.1 i near in
              let v = reported_all (NotAfterHigher before reports r) reports f.not_after_higher t w.1 w.2 in
              le_trans (entry_order o) r.entry t.entry s.entry v u
        ];
        same = reported_all (λ t. Same t r) reports f.same_again s i;
      }

  -- a report that is consistent with all keeps the rules
  pub consistent_keeps_rules : Consistent before side k d (r ∷ reports) → KeepsRules before side k d reports r
  consistent_keeps_rules c =
      let agree = newest_agrees before side k d reports r c in
      record {
        kind = c.kinds.0;
        not_before_lower =
            All-weaker (Agree before r) (NotBeforeLower before reports r) (λ s g l. g.not_before l.0) reports agree;
        not_after_higher =
            All-weaker (Agree before r) (NotAfterHigher before reports r) (λ s g l. g.not_after l.0) reports agree;
        same_again = All-weaker (Agree before r) (λ s. Same s r) (λ s g. g.same) reports agree;
      }

-- the rules, which look at the nearest places only, decide whether a report is consistent with all
pub nearest_places_decide : {E : Type 0} {before : E → E → Bool} → IsOrder before → NearestPlacesDecide before
nearest_places_decide o = record {
  consistent = λ side k d reports r c one. rules_keep_consistent side k d reports r o c one;
  keeps_rules = λ side k d reports r c. consistent_keeps_rules side k d reports r c;
}

-- an honest seat's next entry keeps the rules
pub honest_is_accepted : {E : Type 0} {before : E → E → Bool} → IsOrder before → HonestIsAccepted before
honest_is_accepted {E} {before} o side k d reports from_1 xs x place one =
    let r : Report E = record { place = place; entry = entry_at (row side k xs) place } in
    let explains : Explains before side k d (r ∷ reports) xs = record { declared = x.declared; in_order = x.in_order; shows = (refl, x.shows) } in
    consistent_keeps_rules side k d reports r (explained_consistent o side k d (r ∷ reports) (one, from_1) xs explains)
