-- How the state of a seat stands to its accepted reports, and to whether it has reported in this round.
use Rattle.std.proofs.Common.{◌≡◌, ℕ, ◌<◌, ◌≤◌, Bool, true, false, List, [], ◌∷◌, ◌++◌, map, reverse, Some, None, Option, sym, refl, ap, ◌∙◌, subst, arith}
use Rattle.std.proofs.lemmas.List.{reverse-append, reverse-reverse}
use Rattle.std.specs.List.{AllByRecursion as Each}
use Rattle.elements.specs.Orders.{OneElementEach}
use Rattle.referees.specs.declared.verdict.GroupVerdict.{GroupVerdict}
use Rattle.referees.specs.declared.verdict.GroupVerdict.TheVariants.{Lower, Higher, Done}
use Rattle.group.specs.SeatStates.{bounds_next}
use Rattle.group.specs.SeatValues.{SeatValue, new_seat, with_counts, seat_after}
use Rattle.group.specs.SeatCounts.{HasCounts}
use Rattle.group.specs.GroupLaws.{NoneDone, Standing, standing_after}
use Rattle.group.specs.Ranges.{target, from_after, to_after, LeavesPlace}
use Rattle.group.specs.GroupProtocol.{known_after}
use Rattle.group.specs.SeatRules.{first_bounds, bounds_after, Possible, Round, round, EachPossible, NeverEmpty, Report, reports, Explains}
use Rattle.group.specs.declared.counts.Counts.{Counts}
use Rattle.group.specs.declared.count_bounds.CountBounds.{CountBounds}
use Rattle.group.proofs.Explained.{explained_if_possible}
use Rattle.group.proofs.FiveRules.{five_rules_decide}
use Rattle.group.proofs.LaterRounds.{never_empty_more, none_done_more, possible_more, standing_more, reports_more, each-reverse}
use Rattle.group.proofs.NarrowedRanges.{GoesOn}

-- the report of counts at the target of a range
abbrev pub at_target : (a b : ℕ) → Counts → Report
at_target a b counts = record { target = target a b; counts = counts }

-- what a seat has given in this round, if it has, is possible and the newest of its reports
abbrev pub Given : (a b : ℕ) → CountBounds → (older accepted : List Report) → (has : Bool) → Option Counts → Type 0
Given a b known older accepted has None = (accepted ≡ older) × (has ≡ false)
Given a b known older accepted has (Some counts) = (accepted ≡ at_target a b counts ∷ older) × (has ≡ true) × Possible a b known counts

module _ (lo hi d : ℕ) where
  -- where a seat of this declared length stands before any round
  abbrev pub at_first : Standing
  at_first = record { a = lo; b = hi; seat = first_bounds d }

  -- the state of a seat follows from rounds, none of them done, in each of which its counts were possible; its reports are
  -- those of these rounds, and what it has given in this round; and what is known of it is what the verdicts made and the
  -- reports of these rounds say
  pub record SeatStands (made : List GroupVerdict) (a b : ℕ) (value : SeatValue) (accepted : List Report) (has : Bool) : Type 0 where
    pub rounds : List Round
    pub never_empty : NeverEmpty lo hi rounds
    pub none_done : NoneDone rounds
    pub possible : EachPossible lo hi (first_bounds d) rounds
    pub leads_here : standing_after at_first rounds ≡ record { a = a; b = b; seat = value.known }
    pub known_is : value.known ≡ known_after d made (reverse (reports lo hi rounds))
    pub given : Given a b value.known (reverse (reports lo hi rounds)) accepted has value.given

  -- the state of a seat before any round stands to no reports
  pub seat_opened : lo ≤ hi → SeatStands [] lo hi (new_seat d) [] false
  seat_opened order = record { rounds = []; never_empty = order; none_done = tt; possible = tt; leads_here = refl; known_is = refl; given = (refl, refl) }

-- a round with a verdict that leaves places in the range is not done, and leaves a range that is not empty
one_round : (a b : ℕ) (counts : Counts) (verdict : GroupVerdict) → GoesOn verdict → a ≤ b → LeavesPlace verdict a b →
    NeverEmpty a b (round counts verdict ∷ []) × NoneDone (round counts verdict ∷ [])
one_round a b counts Lower on order leaves = let room : a < target a b = leaves in ((order, leaves, omega arith), tt)
one_round a b counts Higher on order leaves = let room : target a b < b = leaves in ((order, leaves, omega arith), tt)
one_round a b counts Done on order leaves = absurd on

-- a list that explains reports explains them the other way round
explained_reversed : {T : Type 0} (place : T → ℕ) (lo hi d : ℕ) (xs : List T) {in_order accepted : List Report} → accepted ≡ reverse in_order →
    Explains place lo hi d in_order xs → Explains place lo hi d accepted xs
explained_reversed place lo hi d xs {in_order} is x =
    let Shown : Report → Type 0 = λ r. HasCounts r.target (map place xs) r.counts in
    record { declared = x.declared; within = x.within; shows = subst (Each Shown) (sym is) (each-reverse Shown in_order x.shows) }

module _ {lo hi d a b : ℕ} {made : List GroupVerdict} {value : SeatValue} {accepted : List Report} {has : Bool}
    (stands : SeatStands lo hi d made a b value accepted has) where
  -- what the seat has given, where this is
  pub given_is : (given : Option Counts) → value.given ≡ given → Given a b value.known (reverse (reports lo hi stands.rounds)) accepted has given
  given_is given is = subst (Given a b value.known (reverse (reports lo hi stands.rounds)) accepted has) is stands.given

  -- what is known of a seat that has given nothing is what the verdicts and its reports say
  pub known_by_reports : value.given ≡ None → value.known ≡ known_after d made accepted
  known_by_reports none = stands.known_is ∙ ap (known_after d made) (sym (given_is None none).0)

  -- the state of a seat that had given nothing, with possible counts that it reports, stands to its reports and this one
  pub seat_reported : (counts : Counts) → value.given ≡ None → Possible a b value.known counts →
      SeatStands lo hi d made a b (with_counts counts value) (at_target a b counts ∷ accepted) true
  seat_reported counts none p = record {
    rounds = stands.rounds;
    never_empty = stands.never_empty;
    none_done = stands.none_done;
    possible = stands.possible;
    leads_here = stands.leads_here;
    known_is = stands.known_is;
    given = (ap (λ (in_order : List Report). at_target a b counts ∷ in_order) (given_is None none).0, refl, p);
  }

  -- the reports of the rounds and of a further one, the newest first
  reported_more : (counts : Counts) (verdict : GroupVerdict) →
      reverse (reports lo hi (stands.rounds ++ (round counts verdict ∷ []))) ≡ at_target a b counts ∷ reverse (reports lo hi stands.rounds)
  reported_more counts verdict =
      let first = at_first lo hi d in
      let now = standing_after first stands.rounds in
      ap reverse (reports_more (round counts verdict ∷ []) first stands.rounds)
      ∙ reverse-append (reports lo hi stands.rounds) (at_target now.a now.b counts ∷ [])
      ∙ ap (λ (at : Standing). at_target at.a at.b counts ∷ reverse (reports lo hi stands.rounds)) stands.leads_here

  -- after a verdict that leaves places in the range, the counts that the seat gave have made one round more
  pub seat_stands_after : (counts : Counts) (verdict : GroupVerdict) → value.given ≡ Some counts → GoesOn verdict → a ≤ b → LeavesPlace verdict a b →
      SeatStands lo hi d (verdict ∷ made) (from_after verdict a b) (to_after verdict a b) (seat_after verdict value) accepted false
  seat_stands_after counts verdict given on order leaves =
      let first = at_first lo hi d in
      let more = round counts verdict ∷ [] in
      let gave = given_is (Some counts) given in
      let Next : Option Counts → Standing
      = λ given. record { a = from_after verdict a b; b = to_after verdict a b; seat = bounds_next verdict value.known given } in
      let one = one_round a b counts verdict on order leaves in
      record {
        rounds = stands.rounds ++ more;
        never_empty =
            never_empty_more more first stands.rounds stands.never_empty stands.none_done
            (subst (λ (at : Standing). NeverEmpty at.a at.b more) (sym stands.leads_here) one.0);
        none_done = none_done_more more stands.rounds stands.none_done one.1;
        possible =
            possible_more more first stands.rounds stands.possible
            (subst (λ (at : Standing). EachPossible at.a at.b at.seat more) (sym stands.leads_here) (gave.2, tt));
        leads_here =
            standing_more more first stands.rounds
            ∙ ap (λ (at : Standing). standing_after at more) stands.leads_here
            ∙ ap Next (sym given);
        known_is =
            ap (bounds_next verdict value.known) given
            ∙ ap (λ (known : CountBounds). bounds_after verdict known counts) stands.known_is
            ∙ ap (known_after d (verdict ∷ made)) (sym (reported_more counts verdict));
        given = (gave.0 ∙ sym (reported_more counts verdict), refl);
      }

  -- a list that explains the reports has the counts that the seat gave, at the target
  pub explained_counts : (counts : Counts) → value.given ≡ Some counts → {T : Type 0} (place : T → ℕ) (xs : List T) → Explains place lo hi d accepted xs →
      HasCounts (target a b) (map place xs) counts
  explained_counts counts given place xs x =
      let Shown : Report → Type 0 = λ r. HasCounts r.target (map place xs) r.counts in
      let shown = subst (Each Shown) (given_is (Some counts) given).0 x.shows in shown.0

  module _ {T : Type 0} (place : T → ℕ) (lowest highest : ℕ) (each : OneElementEach place lowest highest) where
    -- some list explains all that the seat has reported
    pub some_list_explains : lowest ≤ lo → hi ≤ highest → (xs : List T) × Explains place lo hi d accepted xs
    some_list_explains p q = of_given value.given refl
      where
        -- whatever it has given in this round
        of_given : (given : Option Counts) → value.given ≡ given → (xs : List T) × Explains place lo hi d accepted xs
        of_given None g =
            let some = (explained_if_possible place lowest highest each).explained lo hi d stands.rounds p q stands.never_empty stands.possible in
            (some.0, explained_reversed place lo hi d some.0 (given_is None g).0 some.1)
        of_given (Some counts) g =
            let gave = given_is (Some counts) g in
            let now : Possible _ _ _ counts = subst (λ (at : Standing). Possible at.a at.b at.seat counts) (sym stands.leads_here) gave.2 in
            let law = (five_rules_decide place lowest highest each).explained lo hi d stands.rounds counts p q in
            let some = law stands.never_empty stands.none_done stands.possible now in
            (some.0, explained_reversed place lo hi d some.0 (gave.0 ∙ sym (reported_more counts Done)) some.1)

    -- counts that some list explains, together with what the seat has reported in earlier rounds, are possible
    pub explained_possible : (counts : Counts) → value.given ≡ None → (xs : List T) → Explains place lo hi d (at_target a b counts ∷ accepted) xs →
        Possible a b value.known counts
    explained_possible counts none xs x =
        let in_order = reports lo hi (stands.rounds ++ (round counts Done ∷ [])) in
        let is : at_target a b counts ∷ accepted ≡ reverse in_order
        = ap (λ (older : List Report). at_target a b counts ∷ older) (given_is None none).0 ∙ sym (reported_more counts Done) in
        let back : in_order ≡ reverse (at_target a b counts ∷ accepted) = sym (reverse-reverse in_order) ∙ ap reverse (sym is) in
        subst (λ (at : Standing). Possible at.a at.b at.seat counts) stands.leads_here
        ((five_rules_decide place lowest highest each).possible lo hi d stands.rounds counts stands.never_empty stands.none_done xs
        (explained_reversed place lo hi d xs back x))
