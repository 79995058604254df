-- A seat's counts are explained by some list exactly if they were possible in every round.
use Rattle.std.proofs.Common.{◌≡◌, ℕ, ◌+◌, ◌-◌, ◌<◌, ◌≤◌, List, [], ◌∷◌, map, length, sym, ap, ◌∙◌, subst, arith}
use Rattle.std.specs.List.{AllByRecursion as Each}
use Rattle.std.proofs.ByRecursion.{All-map, All-weaker}
use Rattle.std.proofs.lemmas.List.{length-map}
use Rattle.elements.specs.Orders.{OneElementEach}
use Rattle.referees.specs.declared.verdict.GroupVerdict.TheVariants.{Lower, Higher, Done}
use Rattle.group.specs.SeatCounts.{below, above, HasCounts}
use Rattle.group.specs.GroupLaws.{ExplainedIfPossible}
use Rattle.group.specs.Ranges.{target}
use Rattle.group.specs.SeatRules.{first_bounds, Possible, Round, round, EachPossible, NeverEmpty, reports}
use Rattle.group.specs.declared.count_bounds.CountBounds.{CountBounds}
use Rattle.group.specs.declared.counts.Counts.{Counts}
use Rattle.group.proofs.BelowAndAbove.{below_none, above_none, above_pred, below_suc, below_mono, above_mono}
use Rattle.group.proofs.BuiltLists.{Between, shows_alone, build}
use Rattle.group.proofs.Places.{all_places, elements_at}

module _ (ys : List ℕ) where
  -- what is known of a seat with these places, where all that they say of the range is known
  abbrev known_of : (a b : ℕ) → CountBounds
  known_of a b = record { declared = length ys; low = below a ys; high = above b ys }

  -- true counts keep the five rules
  true_possible : (a b : ℕ) (counts : Counts) → a ≤ b → HasCounts (target a b) ys counts → Possible a b (known_of a b) counts
  true_possible a b counts h c =
      let m = target a b in
      record {
        room = omega (arith, c.0, c.1, below_suc m ys, below_mono m (m + 1) (omega arith) ys);
        low = omega (arith, c.0, below_mono a m (omega arith) ys);
        high = omega (arith, c.1, above_mono m b (omega arith) ys);
        edge_a = λ e. sym c.0 ∙ ap (λ (z : ℕ). below z ys) e;
        edge_b = λ e. sym c.1 ∙ ap (λ (z : ℕ). above z ys) e;
      }

  -- true counts are possible in every round
  each_possible : (a b : ℕ) (rounds : List Round) → NeverEmpty a b rounds → Each (λ r. HasCounts r.target ys r.counts) (reports a b rounds) →
      EachPossible a b (known_of a b) rounds
  each_possible a b [] n s = tt
  each_possible a b (round counts Lower ∷ later) n s =
      let m = target a b in
      let left : a < m = n.1 in
      let e : above (m - 1) ys ≡ length ys - counts.below = omega (arith, above_pred m ys (omega arith), s.0.0) in
      let Rest : ℕ → Type 0 = λ high. EachPossible a (m - 1) (record { declared = length ys; low = below a ys; high = high }) later in
      (true_possible a b counts n.0 s.0, subst Rest e (each_possible a (m - 1) later n.2 s.1))
  each_possible a b (round counts Higher ∷ later) n s =
      let m = target a b in
      let e : below (m + 1) ys ≡ length ys - counts.above = omega (arith, below_suc m ys, s.0.1) in
      let Rest : ℕ → Type 0 = λ low. EachPossible (m + 1) b (record { declared = length ys; low = low; high = above b ys }) later in
      (true_possible a b counts n.0 s.0, subst Rest e (each_possible (m + 1) b later n.2 s.1))
  each_possible a b (round counts Done ∷ later) n s = (true_possible a b counts n.0 s.0, each_possible a b later n.2 s.1)

-- the law, for a type whose places are all numbers from lowest to highest, one to an element
pub explained_if_possible : {E : Type 0} (place : E → ℕ) (lowest highest : ℕ) → OneElementEach place lowest highest →
    ExplainedIfPossible place lowest highest
explained_if_possible {E} place lowest highest each =
    record {
      explained = λ lo hi d rounds p q n w.
          let shown = reports lo hi rounds in
          let r = build lo hi (first_bounds d) rounds n (omega arith) w in
          let ys = r.0 in
          let all : length ys ≡ d = omega (arith, r.1.all) in
          let x = elements_at place lowest highest each lo hi p q ys r.1.within in
          let xs = x.0 in
          let is : ys ≡ map place xs = sym x.1 in
          let shows = shows_alone ys shown r.1.shows in (
            xs,
            record {
              declared = omega (arith, length-map xs place, ap length is, all);
              within = all_places place (Between lo hi) xs (subst (Each (Between lo hi)) is r.1.within);
              shows = subst (λ (l : List ℕ). Each (λ r. HasCounts r.target l r.counts) shown) is shows;
            },
          );
      possible = λ lo hi d rounds n xs e.
          let ys = map place xs in
          let within = All-map (Between lo hi) place xs e.within in
          let low : below lo ys ≡ 0 = below_none lo ys (All-weaker (Between lo hi) (λ y. lo ≤ y) (λ y h. h.0) ys within) in
          let high : above hi ys ≡ 0 = above_none hi ys (All-weaker (Between lo hi) (λ y. y ≤ hi) (λ y h. h.1) ys within) in
          let all : length ys ≡ d = omega (arith, length-map xs place, e.declared) in
          let w : EachPossible lo hi (known_of ys lo hi) rounds = each_possible ys lo hi rounds n e.shows in
          rw (low, high, all) at w;
    }
