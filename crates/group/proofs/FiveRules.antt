-- After accepted rounds, the five rules pass exactly the counts that some list explains together with the earlier ones.
use Rattle.std.proofs.Common.{ℕ, List, [], ◌∷◌, ◌++◌, map, sym, refl, subst, arith}
use Rattle.std.specs.List.{AllByRecursion as Each}
use Rattle.std.proofs.ByRecursion.{All-append}
use Rattle.std.proofs.lemmas.Bool.Decides.{nat_tests}
use Rattle.elements.specs.Orders.{OneElementEach}
use Rattle.referees.specs.declared.verdict.GroupVerdict.TheVariants.{Done}
use Rattle.group.specs.SeatCounts.{HasCounts}
use Rattle.group.specs.GroupLaws.{TestIsFiveRules, NoneDone, Standing, standing_after, FiveRulesDecide, HonestIsPossible}
use Rattle.group.specs.SeatRules.{first_bounds, Round, round, NeverEmpty, Report, reports}
use Rattle.group.specs.declared.counts.Counts.{Counts}
use Rattle.group.proofs.Explained.{explained_if_possible}
use Rattle.group.proofs.LaterRounds.{order_after, never_empty_more, possible_more, possible_later, reports_more}

-- the test passes exactly what keeps the five rules
pub test_is_five_rules : TestIsFiveRules
test_is_five_rules = record {
  passed = λ a b seat counts e. record {
    room = grind (arith, nat_tests);
    low = grind (arith, nat_tests);
    high = grind (arith, nat_tests);
    edge_a = λ edge. grind (arith, nat_tests);
    edge_b = λ edge. grind (arith, nat_tests);
  };
  passing = λ a b seat counts p. grind (arith, nat_tests);
}

-- after rounds none of which was done, the range that a further one asks about is not empty either
never_empty_last : (counts : Counts) (at : Standing) (rounds : List Round) → NeverEmpty at.a at.b rounds → NoneDone rounds →
    NeverEmpty at.a at.b (rounds ++ (round counts Done ∷ []))
never_empty_last counts at rounds n w =
    let order = order_after at rounds n in never_empty_more (round counts Done ∷ []) at rounds n w (order, refl, order)

-- the law, for a type whose places are all numbers from lowest to highest, one to an element
pub five_rules_decide : {E : Type 0} (place : E → ℕ) (lowest highest : ℕ) → OneElementEach place lowest highest →
    FiveRulesDecide place lowest highest
five_rules_decide place lowest highest each =
    let law = explained_if_possible place lowest highest each in
    record {
      explained = λ lo hi d rounds counts p q n w h now.
          let at : Standing = record { a = lo; b = hi; seat = first_bounds d } in
          let last = round counts Done ∷ [] in
          law.explained lo hi d (rounds ++ last) p q (never_empty_last counts at rounds n w) (possible_more last at rounds h (now, tt));
      possible = λ lo hi d rounds counts n w xs e.
          let at : Standing = record { a = lo; b = hi; seat = first_bounds d } in
          let last = round counts Done ∷ [] in
          (possible_later last at rounds (law.possible lo hi d (rounds ++ last) (never_empty_last counts at rounds n w) xs e)).0;
    }

-- an honest seat's counts at the next target are possible
pub honest_is_possible : {E : Type 0} (place : E → ℕ) (lowest highest : ℕ) → OneElementEach place lowest highest → HonestIsPossible place
honest_is_possible place lowest highest each lo hi d rounds n w xs e counts h =
    let at : Standing = record { a = lo; b = hi; seat = first_bounds d } in
    let last = round counts Done ∷ [] in
    let Shown : Report → Type 0 = λ r. HasCounts r.target (map place xs) r.counts in
    let now = standing_after at rounds in
    (five_rules_decide place lowest highest each).possible lo hi d rounds counts n w xs
    (record {
      declared = e.declared;
      within = e.within;
      shows =
          subst (Each Shown) (sym (reports_more last at rounds))
          (All-append Shown (reports lo hi rounds) (reports now.a now.b last) e.shows (h, tt));
    })
