-- Searches by a judge, and that the weighing of lists finds the element of rank k.
use Rattle.std.proofs.Common.{◌≡◌, ℕ, zero, suc, ◌+◌, ◌-◌, ◌^◌, ◌<◌, ◌≤◌, Bool, not, nat_lt, List, [], ◌∷◌, map, length, sym, refl, ap, ◌∙◌, subst, inl, inr, arith}
use Rattle.std.proofs.lemmas.Bool.{cases_order}
use Rattle.std.proofs.lemmas.Bool.Decides.{nat_tests}
use Rattle.elements.specs.Orders.{IsOrder, PlacesAgree}
use Rattle.elements.specs.Ranks.{joint, count, Ranked, Counted}
use Rattle.elements.proofs.ListCounts.{count_weaken, count-not}
use Rattle.elements.proofs.Powers.{less_than_power}
use Rattle.elements.proofs.RankFacts.{ranked_counted, ranked_all}
use Rattle.referees.specs.Verdicts.{weight_of}
use Rattle.referees.specs.declared.verdict.GroupVerdict.{GroupVerdict}
use Rattle.referees.specs.declared.verdict.GroupVerdict.TheVariants.{Lower, Higher, Done}
use Rattle.group.specs.SeatCounts.{below, above, weighed, verdict_knowing}
use Rattle.group.specs.GroupLaws.{WeighingFindsRank}
use Rattle.group.specs.Ranges.{target}
use Rattle.group.specs.Searches.{Search, done, lower, higher}
use Rattle.group.proofs.Logarithms.{at_most_log_plus_one}
use Rattle.group.proofs.Verdicts.{weight_lower, weight_higher, weight_done, judged_lower, judged_higher, judged_done}
use Rattle.group.proofs.Places.{counted_places, sum_counts, sum_lengths, all_joint}

-- whatever the target, the weighing of places says what their place of rank k says
weighs : (xs : List ℕ) (k x : ℕ) → Counted nat_lt k xs x → (m : ℕ) → weight_of (below m xs) (above m xs) k (length xs) ≡ verdict_knowing x m
weighs xs k x c m =
    let n = length xs in
    let u = below m xs in
    let v = above m xs in
    let not_above = count-not (λ y. nat_lt m y) xs in
    elim (cases_order x m) [
      | inl e ↦
          let few : u < k = rw (← e) c.few in
          let many : k ≤ count (λ y. not (nat_lt m y)) xs = rw (← e) c.many in
          weight_done u v k n few (omega (arith, not_above)) ∙ sym (judged_done x m e)
      | inr w ↦ elim w [
        | inl s ↦
            let most = count_weaken (λ y. not (nat_lt x y)) (λ y. nat_lt y m) xs (λ y h. grind (arith, nat_tests)) in
            weight_lower u v k n (omega (arith, most, c.many)) ∙ sym (judged_lower x m s)
        | inr s ↦
            let few = count_weaken (λ y. nat_lt y m) (λ y. nat_lt y x) xs (λ y h. grind (arith, nat_tests)) in
            let rest = count_weaken (λ y. not (nat_lt m y)) (λ y. nat_lt y x) xs (λ y h. grind (arith, nat_tests)) in
            weight_higher u v k n (omega (arith, few, c.few)) (omega (arith, rest, not_above, c.few)) ∙ sym (judged_higher x m s)
      ]
    ]

-- a range that holds x closes in on it, within any j where its size is smaller than 2 ^ j
closes : (x j a b : ℕ) → a ≤ x → x ≤ b → b - a + 1 < 2 ^ j → (verdicts : List GroupVerdict) × Search (verdict_knowing x) a b verdicts x × (length verdicts ≤ j)
closes x zero a b p q w = absurd (omega arith)
closes x (suc j) a b p q w =
    let m = target a b in
    elim (cases_order x m) [
      | inl e ↦ (
        Done ∷ [],
        subst (λ (z : ℕ). Search (verdict_knowing x) a b (Done ∷ []) z) (sym e) (done (omega arith) (judged_done x m e)),
        omega arith,
      )
      | inr u ↦ elim u [
        | inl s ↦
            let r = closes x j a (m - 1) p (omega arith) (omega arith) in
            (Lower ∷ r.0, lower {later = r.0} (omega arith) (judged_lower x m s) r.1, omega (arith, r.2))
        | inr s ↦
            let r = closes x j (m + 1) b (omega arith) q (omega arith) in
            (Higher ∷ r.0, higher {later = r.0} (omega arith) (judged_higher x m s) r.1, omega (arith, r.2))
      ]
    ]

-- judges that agree at every target make the same runs
same_run : (f g : ℕ → GroupVerdict) → ((m : ℕ) → f m ≡ g m) → {a b m : ℕ} {verdicts : List GroupVerdict} → Search f a b verdicts m → Search g a b verdicts m
same_run f g h (done {a = a} {b = b} l e) = done l (sym (h (target a b)) ∙ e)
same_run f g h (lower {a = a} {b = b} l e r) = lower l (sym (h (target a b)) ∙ e) (same_run f g h r)
same_run f g h (higher {a = a} {b = b} l e r) = higher l (sym (h (target a b)) ∙ e) (same_run f g h r)

-- a judge's searches from one range have the same verdicts, and end at the same place
pub one_search : (f : ℕ → GroupVerdict) {a b m n : ℕ} {us vs : List GroupVerdict} → Search f a b us m → Search f a b vs n → (us ≡ vs) × (m ≡ n)
one_search f (done l e) (done l' e') = (refl, refl)
one_search f (done l e) (lower l' e' r) = (cc, cc)
one_search f (done l e) (higher l' e' r) = (cc, cc)
one_search f (lower l e s) (done l' e') = (cc, cc)
one_search f (lower l e s) (lower l' e' r) = let i = one_search f s r in (ap (λ (ws : List GroupVerdict). Lower ∷ ws) i.0, i.1)
one_search f (lower l e s) (higher l' e' r) = (cc, cc)
one_search f (higher l e s) (done l' e') = (cc, cc)
one_search f (higher l e s) (lower l' e' r) = (cc, cc)
one_search f (higher l e s) (higher l' e' r) = let i = one_search f s r in (ap (λ (ws : List GroupVerdict). Higher ∷ ws) i.0, i.1)

module _ {E : Type 0} {before : E → E → Bool} (place : E → ℕ) (order : IsOrder before) (agrees : PlacesAgree before place) where
  -- whatever the target, the weighing of lists says what the place of their element of rank k says
  weighed_judged : (lists : List (List E)) (k : ℕ) (x : E) → Ranked before k (joint lists) x → (m : ℕ) → weighed place k lists m ≡ verdict_knowing (place x) m
  weighed_judged lists k x r m =
      rw (sum_counts place (λ y. nat_lt y m) lists, sum_counts place (λ y. nat_lt m y) lists, sum_lengths place lists)
      (weighs (map place (joint lists)) k (place x)
      (counted_places before place agrees k (joint lists) x (ranked_counted order k (joint lists) x r)) m)

  -- the weighing of lists finds their element of rank k
  pub weighing_finds : WeighingFindsRank before place
  weighing_finds lists lo hi k x within r =
      let Inside : E → Type 0 = λ y. (lo ≤ place y) × (place y ≤ hi) in
      let inside = ranked_all order k (joint lists) Inside x (all_joint Inside lists within) r in
      let size = hi - lo + 1 in
      let referee = weighed place k lists in
      let alone = verdict_knowing (place x) in
      let agree = weighed_judged lists k x r in
      let some = closes (place x) size lo hi inside.0 inside.1 (less_than_power size) in
      record {
        some_search = (some.0, same_run alone referee (λ m. sym (agree m)) some.1);
        ends_there = λ verdicts m run. (one_search alone (same_run referee alone agree run) some.1).1;
        few = λ verdicts m run.
            at_most_log_plus_one size (length verdicts) (omega arith) (λ j h.
            let short = closes (place x) j lo hi inside.0 inside.1 h in
            rw (one_search alone (same_run referee alone agree run) short.1).0 short.2);
        rebuilt = λ verdicts m run. same_run referee alone agree run;
      }
