-- Whoever lies: a finished exchange is the run of all lists that explain it, and there are such lists.
use Rattle.std.proofs.Common.{◌≡◌, ℕ, ◌+◌, ◌-◌, ◌≤◌, Bool, List, [], ◌∷◌, map, length, sum_by, sym, refl, ap, subst, arith}
use Rattle.std.specs.List.{AllByRecursion as Each, AllZip, sum}
use Rattle.std.proofs.lemmas.List.{length-map}
use Rattle.std.proofs.lemmas.List.Sums.{sum_by-cons}
use Rattle.elements.specs.Orders.{IsOrder, PlacesAgree, OneElementEach}
use Rattle.elements.specs.Ranks.{joint, Ranked}
use Rattle.elements.proofs.RankFacts.{some_ranked}
use Rattle.referees.specs.declared.verdict.GroupVerdict.{GroupVerdict}
use Rattle.referees.specs.declared.verdict.GroupVerdict.TheVariants.{Lower, Higher, Done}
use Rattle.group.specs.SeatCounts.{below, above, HasCounts, weighed}
use Rattle.group.specs.Exchanges.{AllPossible, verdict_on, all_known_after, GroupRound, group_round, round_verdicts, RoundReports, group_reports, ExplainRounds}
use Rattle.group.specs.Exchanges.{FinishedExchange, done as finishes_done, lower as finishes_lower, higher as finishes_higher}
use Rattle.group.specs.GroupLaws.{AtMostLogPlusOne, EveryFinishedIsSearch}
use Rattle.group.specs.Ranges.{target, from_after, to_after}
use Rattle.group.specs.Searches.{Search, done, lower, higher}
use Rattle.group.specs.SeatRules.{first_bounds, bounds_after, Round, round, EachPossible, NeverEmpty, reports}
use Rattle.group.specs.declared.count_bounds.CountBounds.{CountBounds}
use Rattle.group.specs.declared.counts.Counts.{Counts}
use Rattle.group.proofs.Explained.{explained_if_possible}
use Rattle.group.proofs.NeverEmpty.{RankInRange, in_range_at_first, in_range_lower, in_range_higher}
use Rattle.group.proofs.Places.{sum_lengths}
use Rattle.group.proofs.SearchFinds.{weighing_finds}

-- every report was possible when it came
abbrev Accepted : (a b : ℕ) → List CountBounds → List GroupRound → Type 0
Accepted a b seats [] = Unit {0}
Accepted a b seats (group_round reports verdict ∷ later) =
    AllPossible a b seats reports × Accepted (from_after verdict a b) (to_after verdict a b) (all_known_after verdict seats reports) later

-- the first seat's counts, and those of the other seats
abbrev first_counts : List Counts → Counts
first_counts [] = record { below = 0; above = 0 }
first_counts (counts ∷ reports) = counts

abbrev other_counts : List Counts → List Counts
other_counts [] = []
other_counts (counts ∷ reports) = reports

-- the first seat's rounds, and the group_rounds of the other seats
abbrev first_rounds : List GroupRound → List Round
first_rounds [] = []
first_rounds (group_round reports verdict ∷ later) = round (first_counts reports) verdict ∷ first_rounds later

abbrev other_turns : List GroupRound → List GroupRound
other_turns [] = []
other_turns (group_round reports verdict ∷ later) = group_round (other_counts reports) verdict ∷ other_turns later

-- if no range on the way is empty, none is for the other seats either
never_empty_others : (a b : ℕ) (group_rounds : List GroupRound) → NeverEmpty a b (first_rounds group_rounds) → NeverEmpty a b (first_rounds (other_turns group_rounds))
never_empty_others a b [] n = n
never_empty_others a b (group_round reports Lower ∷ later) n = (n.0, n.1, never_empty_others a (target a b - 1) later n.2)
never_empty_others a b (group_round reports Higher ∷ later) n = (n.0, n.1, never_empty_others (target a b + 1) b later n.2)
never_empty_others a b (group_round reports Done ∷ []) n = n
never_empty_others a b (group_round reports Done ∷ (group_round more verdict ∷ later)) n = absurd (omega (arith, ap length n.1))

-- in accepted group_rounds each of the first seat's counts was possible, and the other seats' group_rounds are accepted
split : (a b : ℕ) (seat : CountBounds) (seats : List CountBounds) (group_rounds : List GroupRound) → Accepted a b (seat ∷ seats) group_rounds →
    EachPossible a b seat (first_rounds group_rounds) × Accepted a b seats (other_turns group_rounds)
split a b seat seats [] s = (tt, tt)
split a b seat seats (group_round [] v ∷ later) s = absurd s.0
split a b seat seats (group_round (counts ∷ reports) v ∷ later) s =
    let i = split (from_after v a b) (to_after v a b) (bounds_after v seat counts) (all_known_after v seats reports) later s.1 in
    ((s.0.0, i.0), (s.0.1, i.1))

-- a finished exchange from a range on was accepted, and no range on the way is empty
finishes_accepted : {k n a b m : ℕ} {seats : List CountBounds} {group_rounds : List GroupRound} → RankInRange k n a b seats → FinishedExchange k n a b seats group_rounds m →
    Accepted a b seats group_rounds × NeverEmpty a b (first_rounds group_rounds)
finishes_accepted i (finishes_done reports p e) = ((p, tt), (i.order, refl, i.order))
finishes_accepted {k} {n} i (finishes_lower {a = a} {b = b} {seats = seats} reports p e f) =
    let w = in_range_lower k n a b seats reports i p e in
    let j = finishes_accepted w.1 f in
    ((p, j.0), (i.order, w.0, j.1))
finishes_accepted {k} {n} i (finishes_higher {a = a} {b = b} {seats = seats} reports p e f) =
    let w = in_range_higher k n a b seats reports i p e in
    let j = finishes_accepted w.1 f in
    ((p, j.0), (i.order, w.0, j.1))

-- there are as many verdicts as group_rounds
length_verdicts : (group_rounds : List GroupRound) → length (round_verdicts group_rounds) ≡ length group_rounds
length_verdicts [] = refl
length_verdicts (group_round reports v ∷ later) = omega (arith, length_verdicts later)

module _ {E : Type 0} (place : E → ℕ) where
  -- lists, one a seat, have the reported counts
  abbrev Show : List (List E) → List RoundReports → Type 0
  Show lists reports = Each (λ r. AllZip (λ xs counts. HasCounts r.target (map place xs) counts) lists r.counts) reports

  -- a list for the first seat and lists for the others have the counts of all
  show-cons : (a b : ℕ) (seat : CountBounds) (seats : List CountBounds) (group_rounds : List GroupRound) → Accepted a b (seat ∷ seats) group_rounds →
      (xs : List E) (lists : List (List E)) →
      Each (λ r. HasCounts r.target (map place xs) r.counts) (reports a b (first_rounds group_rounds)) →
      Show lists (group_reports a b (other_turns group_rounds)) → Show (xs ∷ lists) (group_reports a b group_rounds)
  show-cons a b seat seats [] s xs lists h t = tt
  show-cons a b seat seats (group_round [] v ∷ later) s xs lists h t = absurd s.0
  show-cons a b seat seats (group_round (counts ∷ reports) v ∷ later) s xs lists h t =
      let rest = show-cons (from_after v a b) (to_after v a b) (bounds_after v seat counts) (all_known_after v seats reports) later in
      ((h.0, t.0), rest s.1 xs lists h.1 t.1)

  -- where no seat is left nothing is counted
  show_none : (a b : ℕ) (group_rounds : List GroupRound) → Accepted a b [] group_rounds → Show [] (group_reports a b group_rounds)
  show_none a b [] s = tt
  show_none a b (group_round [] v ∷ later) s = (tt, show_none (from_after v a b) (to_after v a b) later s.1)
  show_none a b (group_round (counts ∷ reports) v ∷ later) s = absurd s.0

  -- there are lists that explain accepted group_rounds
  lists_for : (lowest highest : ℕ) → OneElementEach place lowest highest → (lo hi : ℕ) → lowest ≤ lo → hi ≤ highest →
      (declared : List ℕ) (group_rounds : List GroupRound) → Accepted lo hi (map first_bounds declared) group_rounds → NeverEmpty lo hi (first_rounds group_rounds) →
      (lists : List (List E)) × ExplainRounds place lo hi declared (group_reports lo hi group_rounds) lists
  lists_for lowest highest each lo hi p q [] group_rounds s n = ([], record { lengths = tt; within = tt; shows = show_none lo hi group_rounds s })
  lists_for lowest highest each lo hi p q (d ∷ ds) group_rounds s n =
      let i = split lo hi (first_bounds d) (map first_bounds ds) group_rounds s in
      let x = (explained_if_possible place lowest highest each).explained lo hi d (first_rounds group_rounds) p q n i.0 in
      let r = lists_for lowest highest each lo hi p q ds (other_turns group_rounds) i.1 (never_empty_others lo hi group_rounds n) in (
        x.0 ∷ r.0,
        record {
          lengths = (x.1.declared, r.1.lengths);
          within = (x.1.within, r.1.within);
          shows = show-cons lo hi (first_bounds d) (map first_bounds ds) group_rounds s x.0 r.0 x.1.shows r.1.shows;
        },
      )

  -- what is reported of lists adds up to the sums of their counts
  report_sums : (m : ℕ) (lists : List (List E)) (reports : List Counts) → AllZip (λ xs counts. HasCounts m (map place xs) counts) lists reports →
      (sum_by (λ counts. counts.below) reports ≡ sum_by (λ xs. below m (map place xs)) lists)
      × (sum_by (λ counts. counts.above) reports ≡ sum_by (λ xs. above m (map place xs)) lists)
  report_sums m [] [] h = (refl, refl)
  report_sums m [] (counts ∷ reports) h = absurd h
  report_sums m (xs ∷ lists) [] h = absurd h
  report_sums m (xs ∷ lists) (counts ∷ reports) h =
      let i = report_sums m lists reports h.1 in (
        omega (arith, i.0, h.0.0, sum_by-cons (λ (c : Counts). c.below) counts reports, sum_by-cons (λ (ys : List E). below m (map place ys)) xs lists),
        omega (arith, i.1, h.0.1, sum_by-cons (λ (c : Counts). c.above) counts reports, sum_by-cons (λ (ys : List E). above m (map place ys)) xs lists),
      )

  -- the declared lengths of lists add up to their lengths
  pub declared_sum : (declared : List ℕ) (lists : List (List E)) → AllZip (λ d xs. length xs ≡ d) declared lists → sum declared ≡ sum_by length lists
  declared_sum [] [] h = refl
  declared_sum [] (xs ∷ lists) h = absurd h
  declared_sum (d ∷ ds) [] h = absurd h
  declared_sum (d ∷ ds) (xs ∷ lists) h =
      omega (arith, declared_sum ds lists h.1, h.0, sum_by-cons (λ (n : ℕ). n) d ds, sum_by-cons {X = List E} length xs lists)

  module _ (k n : ℕ) (lists : List (List E)) (size : n ≡ sum_by length lists) where
    -- the verdict on what is reported of lists is that of weighing them
    pub verdict_weighed : (m : ℕ) (reports : List Counts) (v : GroupVerdict) → AllZip (λ xs counts. HasCounts m (map place xs) counts) lists reports →
        verdict_on k n reports ≡ v → weighed place k lists m ≡ v
    verdict_weighed m reports v h e =
        let s = report_sums m lists reports h in
        rw (s.0, s.1, size) at e

    -- a finished exchange is the run of lists that have its counts
    run_of : {a b m : ℕ} {seats : List CountBounds} {group_rounds : List GroupRound} → FinishedExchange k n a b seats group_rounds m → NeverEmpty a b (first_rounds group_rounds) →
        Show lists (group_reports a b group_rounds) → Search (weighed place k lists) a b (round_verdicts group_rounds) m
    run_of (finishes_done {a = a} {b = b} reports p e) w h = done w.0 (verdict_weighed (target a b) reports Done h.0 e)
    run_of (finishes_lower {a = a} {b = b} reports p e f) w h = lower w.0 (verdict_weighed (target a b) reports Lower h.0 e) (run_of f w.2 h.1)
    run_of (finishes_higher {a = a} {b = b} reports p e f) w h = higher w.0 (verdict_weighed (target a b) reports Higher h.0 e) (run_of f w.2 h.1)

module _ {E : Type 0} {before : E → E → Bool} (place : E → ℕ) (order : IsOrder before) (agrees : PlacesAgree before place) where
  -- a finished exchange is the run of any lists that explain it, and ended at their element of rank k, within the logarithm and one
  explained_run : (lo hi k : ℕ) (declared : List ℕ) → 1 ≤ k → k ≤ sum declared → (group_rounds : List GroupRound) (m : ℕ) →
      FinishedExchange k (sum declared) lo hi (map first_bounds declared) group_rounds m → NeverEmpty lo hi (first_rounds group_rounds) →
      (lists : List (List E)) → ExplainRounds place lo hi declared (group_reports lo hi group_rounds) lists →
      Search (weighed place k lists) lo hi (round_verdicts group_rounds) m × ((x : E) × (place x ≡ m) × Ranked before k (joint lists) x)
      × AtMostLogPlusOne (hi - lo + 1) (length group_rounds)
  explained_run lo hi k declared one most group_rounds m f n lists e =
      let size = declared_sum place declared lists e.lengths in
      let run = run_of place k (sum declared) lists size f n e.shows in
      let last : k ≤ length (joint lists) = omega (arith, most, size, sum_lengths place lists, length-map (joint lists) place) in
      let x = some_ranked order k (joint lists) one last in
      let finds = weighing_finds place order agrees lists lo hi k x.0 e.within x.1 in (
        run,
        (x.0, sym (finds.ends_there (round_verdicts group_rounds) m run), x.1),
        subst (AtMostLogPlusOne (hi - lo + 1)) (length_verdicts group_rounds) (finds.few (round_verdicts group_rounds) m run),
      )

  -- the law, for a type whose places are all numbers from lowest to highest, one to an element
  pub every_finished_is_search : (lowest highest : ℕ) → OneElementEach place lowest highest → EveryFinishedIsSearch before place lowest highest
  every_finished_is_search lowest highest each lo hi k declared p o q one most group_rounds m f =
      let w = finishes_accepted (in_range_at_first lo hi k declared o one most) f in
      let some = lists_for place lowest highest each lo hi p q declared group_rounds w.0 w.1 in
      let law = explained_run lo hi k declared one most group_rounds m f w.1 in
      record {
        some_lists = some;
        search = λ lists e. (law lists e).0;
        result = λ lists e. (law lists e).1;
        few = (law some.0 some.1).2;
      }
