-- The lengths that are declared for equal parts.
use Rattle.std.proofs.Common.{◌≡◌, ℕ, zero, suc, ◌+◌, ◌*◌, ◌<◌, ◌≤◌, min, Bool, true, false, ◌||◌, nat_lt, List, ◌∷◌, length, take, drop, replicate, Some, None, Ok, Err, Option, Result, ◌⊎◌, inl, inr, sym, refl, ap, ap₂, ◌∙◌, subst, arith}
use Rattle.std.proofs.Math.Bool.{or-true}
use Rattle.std.proofs.Math.Nat.{suc-mul}
use Rattle.std.proofs.lemmas.Bool.{cases_lt, lt-ltb}
use Rattle.std.proofs.lemmas.List.{length-drop, length-take-le, take-replicate, length-replicate}
use Rattle.rankunit.specs.Elements.Limits.{saturated}
use Rattle.rankunit.specs.Faults.RefusalOrder.{check, first_check}
use Rattle.rankunit.specs.Faults.declared.fault.RunFault.{RunFault}
use Rattle.rankunit.specs.Faults.declared.refusal.Refusal.{Refusal}
use Rattle.rankunit.specs.Faults.declared.refusal.Refusal.TheVariants.{SeatsOutOfBounds}
use Rattle.rankunit.specs.Group.GroupCalls.{opening_refusal, Opens}
use Rattle.rankunit.specs.Group.GroupHistoryLaw.{HistoriesKeepLaw}
use Rattle.rankunit.specs.Group.declared.run.OfGroup.{OfGroup}
use Rattle.rankunit.specs.Group.declared.run.Run.{Run}
use Rattle.rankunit.specs.Runs.declared.slip.Slip.{Slip}
use Rattle.rankunit.specs.Runs.declared.stage.Comparing.{Comparing}
use Rattle.rankunit_c.specs.Measures.{parts, declared_lengths}

-- equal parts are declared alike
parts_declared : {X : Type 0} (n each : ℕ) (xs : List X) → n * each ≤ length xs → declared_lengths (parts n each xs) ≡ replicate n (saturated each)
parts_declared zero each xs enough = refl
parts_declared (suc n) each xs enough =
    let product : suc n * each ≡ n * each + each = suc-mul n each in
    let first = length-take-le each xs (omega (arith, enough, product)) in
    let later = parts_declared n each (drop each xs) (omega (arith, enough, product, length-drop each xs)) in
    ap₂ {C = List ℕ} (λ (d : ℕ) (ds : List ℕ). d ∷ ds) (ap saturated first) later

-- more than 16 lengths are refused, whatever they are
decided : (out : Bool) → out ≡ true → (later after : List (Option Refusal)) →
    first_check (first_check (check out SeatsOutOfBounds ∷ later) ∷ after) ≡ Some SeatsOutOfBounds
decided true is later after = refl
decided false is later after = absurd cc

too_many : (lowest highest : ℕ) (lengths : List ℕ) (lo hi rank : ℕ) → 16 < length lengths →
    opening_refusal lowest highest lengths lo hi rank ≡ Some SeatsOutOfBounds
too_many lowest highest lengths lo hi rank many =
    let few = nat_lt (length lengths) 2 in
    decided (few || nat_lt 16 (length lengths)) (ap (λ (b : Bool). few || b) (lt-ltb 16 (length lengths) many) ∙ or-true few) _ _

module _ {X : Type 0} (n each declared seats : ℕ) (xs : List X) (is : declared ≡ saturated each) (seats_are : seats ≡ min n 17)
    (enough : n * each ≤ length xs) where
  -- as many of 17 such lengths as there are parts, where there are no more than 17
  abbrev shown : List ℕ
  shown = take seats (replicate 17 declared)

  -- are the lengths of the parts, or else there are too many of both
  same_lengths : (shown ≡ declared_lengths (parts n each xs)) ⊎ ((16 < length shown) × (16 < length (declared_lengths (parts n each xs))))
  same_lengths =
      let all = parts_declared n each xs enough in
      let cut = take-replicate seats 17 declared (omega (arith, seats_are)) in
      elim (cases_lt 17 n) [
        | inl many ↦
            inr (
              omega (arith, many, seats_are, ap length cut, length-replicate seats declared),
              omega (arith, many, ap length all, length-replicate n (saturated each)),
            )
        | inr few ↦
            let number : seats ≡ n = omega (arith, few, seats_are) in
            inl (cut ∙ ap₂ {C = List ℕ} (λ (m d : ℕ). replicate m d) number is ∙ sym all)
      ]

  module _ {T : Type 0} (lowest highest lo hi rank : ℕ) (result : Result (Run T Comparing × Slip OfGroup T) RunFault)
      (opens : Opens lowest highest shown lo hi rank result) where
    refused_alike : (one other : List ℕ) → 16 < length one → 16 < length other → (given : Result (Run T Comparing × Slip OfGroup T) RunFault) →
        Opens lowest highest one lo hi rank given → Opens lowest highest other lo hi rank given
    refused_alike one other many_one many_other (Ok opened) opens =
        let none = opens.0 in
        let some = too_many lowest highest one lo hi rank many_one in
        absurd cc
    refused_alike one other many_one many_other (Err fault) opens =
        (opens.0, too_many lowest highest other lo hi rank many_other ∙ sym (too_many lowest highest one lo hi rank many_one) ∙ opens.1, opens.2)

    -- so a run that is opened for these lengths is opened for the parts
    pub opens_for_parts : Opens lowest highest (declared_lengths (parts n each xs)) lo hi rank result
    opens_for_parts = elim same_lengths [
      | inl same ↦ subst (λ (lengths : List ℕ). Opens lowest highest lengths lo hi rank result) same opens
      | inr many ↦ refused_alike shown (declared_lengths (parts n each xs)) many.0 many.1 result opens
    ]

    never_opened : (lengths : List ℕ) → 16 < length lengths → (given : Result (Run T Comparing × Slip OfGroup T) RunFault) →
        Opens lowest highest lengths lo hi rank given → (before : T → T → Bool) (sample : T) (place : T → ℕ) (others : List ℕ) →
        HistoriesKeepLaw before sample place lowest highest others lo hi rank given
    never_opened lengths many (Ok opened) opens before sample place others =
        let none = opens.0 in
        let some = too_many lowest highest lengths lo hi rank many in
        absurd cc
    never_opened lengths many (Err fault) opens before sample place others = tt

    -- and its histories keep the law
    pub lawful_for_parts : (before : T → T → Bool) (sample : T) (place : T → ℕ) →
        HistoriesKeepLaw before sample place lowest highest shown lo hi rank result →
        HistoriesKeepLaw before sample place lowest highest (declared_lengths (parts n each xs)) lo hi rank result
    lawful_for_parts before sample place lawful = elim same_lengths [
      | inl same ↦ subst (λ (lengths : List ℕ). HistoriesKeepLaw before sample place lowest highest lengths lo hi rank result) same lawful
      | inr many ↦ never_opened shown many.0 result opens before sample place (declared_lengths (parts n each xs))
    ]

-- where such lengths are not refused, there are no more than 16 parts
pub few_parts : {X : Type 0} (n each : ℕ) (xs : List X) → n * each ≤ length xs → (lowest highest lo hi rank : ℕ) →
    opening_refusal lowest highest (declared_lengths (parts n each xs)) lo hi rank ≡ None → n ≤ 16
few_parts n each xs enough lowest highest lo hi rank none = elim (cases_lt 16 n) [
  | inl many ↦
      let lengths = declared_lengths (parts n each xs) in
      let all : length lengths ≡ n = ap length (parts_declared n each xs enough) ∙ length-replicate n (saturated each) in
      let some = too_many lowest highest lengths lo hi rank (omega (arith, all, many)) in
      absurd cc
  | inr few ↦ few
]
