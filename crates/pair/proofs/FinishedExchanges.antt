-- A finished exchange, whoever gives the reports, is the bisection over every two lists that explain it.
use Rattle.std.proofs.Common.{◌≡◌, ℕ, ◌+◌, ◌^◌, ◌≤◌, Bool, List, ◌∷◌, length, sym, refl, ap, ap₂, ◌∙◌, arith, pow_pos}
use mathlib.Core.List.{reverse_aux}
use Rattle.std.specs.List.{AllByRecursion as Each}
use Rattle.elements.specs.Orders.{IsOrder}
use Rattle.elements.specs.Entries.{lesser_entry}
use Rattle.elements.specs.declared.entry.Entry.{Entry}
use Rattle.referees.specs.Verdicts.{first_of}
use Rattle.referees.specs.declared.verdict.PairVerdict.{PairVerdict}
use Rattle.pair.specs.Exchanges.{reports_at, with_round, Accepted, Exchange, opened, compared, finished}
use Rattle.pair.specs.PairReports.{Report, Consistent}
use Rattle.pair.specs.Rows.{halvings, row, entry_at}
use Rattle.pair.specs.Bisection.{OfSides, moved, judged_verdicts, offset_after, compared as judged, pair_verdicts}
use Rattle.pair.specs.PairLaws.{EveryFinishedIsBisection}
use Rattle.pair.specs.declared.side.Side.{Side}
use Rattle.pair.specs.declared.side.Side.TheVariants.{A, B}
use Rattle.pair.proofs.Consistency.{none_consistent}
use Rattle.pair.proofs.Cuts.{bisection_finds_rank}
use Rattle.pair.proofs.ExplainedReports.{some_list_explains}
use Rattle.pair.proofs.Nearest.{rules_keep_consistent}

module _ {E : Type 0} {before : E → E → Bool} (o : IsOrder before) (k : ℕ) (declared : OfSides) where
  -- consistent reports still are with an accepted round
  round_consistent : (reports : Side → List (Report E)) (places : OfSides) (entries : Side → Entry E) →
      ((side : Side) → 1 ≤ places side) →
      ((side : Side) → Consistent before side k (declared side) (reports side)) → Accepted before k declared reports places entries →
      (side : Side) → Consistent before side k (declared side) (with_round reports places entries side)
  round_consistent reports places entries one c a side =
      rules_keep_consistent side k (declared side) (reports side) (reports_at places entries side) o (c side) (one side) (a side)

  -- the reports of an exchange are consistent
  pub exchange_consistent : {offsets : OfSides} {j : ℕ} {reports : Side → List (Report E)} {vs : List PairVerdict} →
      Exchange before k declared offsets j reports vs → (side : Side) → Consistent before side k (declared side) (reports side)
  exchange_consistent opened side = none_consistent before side k (declared side)
  exchange_consistent (compared {offsets = offsets} {j = j} {reports = reports} entries x a) side =
      round_consistent reports (λ s. offsets s + 2 ^ j) entries (λ s. omega (arith, pow_pos j)) (exchange_consistent x) a side

module _ {E : Type 0} (before : E → E → Bool) (k : ℕ) (lists : Side → List E) where
  -- the verdicts on two lists from windows with these offsets and size 2 ^ j on
  abbrev pub later : OfSides → ℕ → List PairVerdict
  later offsets j = judged_verdicts (judged before k lists) offsets j

  -- after these verdicts, the newest first, the bisection over two lists has windows with these offsets and size 2 ^ j
  pub record Reaches (offsets : OfSides) (j : ℕ) (vs : List PairVerdict) : Type 0 where
    pub verdicts_are : pair_verdicts before k lists ≡ reverse_aux vs (later offsets j)
    pub ends_alike : (side : Side) →
        offset_after side 0 (halvings k) (pair_verdicts before k lists) ≡ offset_after side (offsets side) j (later offsets j)

  -- over lists whose rows show the reports of an exchange, the bisection reaches the windows of the exchange
  pub exchange_reached : {declared offsets : OfSides} {j : ℕ} {reports : Side → List (Report E)} {vs : List PairVerdict} →
      Exchange before k declared offsets j reports vs →
      ((side : Side) → Each (λ r. entry_at (row side k (lists side)) r.place ≡ r.entry) (reports side)) → Reaches offsets j vs
  exchange_reached opened shown = record { verdicts_are = refl; ends_alike = λ side. refl }
  exchange_reached (compared {offsets = offsets} {j = j} {verdicts = vs} entries x a) shown =
      let f = exchange_reached x (λ side. (shown side).1) in
      let v : judged before k lists (λ side. offsets side + 2 ^ j) ≡ first_of before (entries A) (entries B)
      = ap₂ (first_of before) (shown A).0 (shown B).0 in
      let next = λ (w : PairVerdict) (side : Side). moved side w (2 ^ j) (offsets side) in
      record {
        verdicts_are = f.verdicts_are ∙ ap (λ (w : PairVerdict). reverse_aux vs (w ∷ later (next w) j)) v;
        ends_alike = λ side. f.ends_alike side ∙ ap (λ (w : PairVerdict). offset_after side (next w side) j (later (next w) j)) v;
      }

-- a finished exchange is the bisection over any two lists that explain it, and there are such lists
pub finished_is_bisection : {E : Type 0} {before : E → E → Bool} → IsOrder before → E → EveryFinishedIsBisection before
finished_is_bisection {E} {before} o any k declared one most reports vs result (finished {offsets = offsets} {reports = earlier} entries x a) =
    let places = λ (side : Side). offsets side + 1 in
    let consistent = round_consistent o k declared earlier places entries (λ side. omega arith) (exchange_consistent o k declared x) a in
    let some = λ (side : Side). some_list_explains o side k (declared side) any (with_round earlier places entries side) (consistent side) in
    record {
      some_lists = ((λ side. (some side).0), (λ side. (some side).1));
      verdicts_are = λ lists e. sym (exchange_reached before k lists x (λ side. (e side).shows.1)).verdicts_are;
      result_is = λ lists e.
          let reached = exchange_reached before k lists x (λ side. (e side).shows.1) in
          let total : k ≤ length (lists A) + length (lists B) = omega (arith, (e A).declared, (e B).declared) in
          let r = bisection_finds_rank o k lists (record { in_order = λ side. (e side).in_order; from_1 = one; up_to_all = total }) in
          let entry = λ (side : Side) (offset : ℕ). entry_at (row side k (lists side)) (offset + 1) in
          let last = λ (side : Side). sym (e side).shows.0 ∙ ap (entry side) (sym (reached.ends_alike side)) in
          (r.0, ap₂ (lesser_entry before) (last A) (last B) ∙ r.1, r.2);
    }
