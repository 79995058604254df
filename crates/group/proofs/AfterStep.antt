-- A verdict that is not done leaves a round that stands to the trace with it.
use Rattle.std.proofs.Common.{◌≡◌, ℕ, suc, ◌+◌, ◌-◌, ◌^◌, ◌<◌, ◌≤◌, min, max, false, List, ◌∷◌, map, length, Some, Ok, sym, ap, ap₂, ◌∙◌, subst, sum_by, arith}
use Rattle.std.specs.List.{AllByRecursion as Each, sum}
use Rattle.std.specs.Prelude.{slice_get}
use Rattle.std.proofs.lemmas.List.{length-map}
use Rattle.group.specs.SeatTotals.{below_of, above_of}
use Rattle.referees.specs.Verdicts.{weight_of}
use Rattle.referees.specs.declared.verdict.GroupVerdict.{GroupVerdict}
use Rattle.referees.specs.declared.verdict.GroupVerdict.TheVariants.{Lower, Higher, Done}
use Rattle.elements.specs.Limits.{saturated}
use Rattle.runs.specs.Traces.{stepped, verdicts}
use Rattle.group.specs.SeatValues.{SeatValue, seat_after, seat_number}
use Rattle.group.specs.SeatCounts.{HasCounts, weighed}
use Rattle.group.specs.Exchanges.{verdict_on}
use Rattle.group.specs.Ranges.{target, from_after, to_after, LeavesPlace}
use Rattle.group.specs.declared.counts.Counts.{Counts}
use Rattle.group.proofs.FinishedExchanges.{verdict_weighed}
use Rattle.group.proofs.NarrowedRanges.{GoesOn, in_range_after, halved_after, few_halvings}
use Rattle.group.proofs.NeverEmpty.{RankInRange}
use Rattle.group.specs.GroupCalls.{State, moved_state}
use Rattle.group.specs.Histories.{GroupTrace}
use Rattle.group.specs.GroupProtocol.{Left}
use Rattle.group.proofs.ReportAnswers.{WeighsAll}
use Rattle.group.proofs.TraceLists.{explained_at, explained_lengths}
use Rattle.group.proofs.RoundSums.{Gave, counts_of, gave_counts, some_given, all_possible, known_after_all, verdict_gathered}
use Rattle.group.proofs.Numbers.{each_by_index, zip_by_index, read_of_map, seat_of_map, seat_read}
use Rattle.group.proofs.OneSeat.{SeatStands, given_is, seat_stands_after, explained_counts}
use Rattle.group.proofs.Openings.{Group}
use Rattle.group.proofs.RunStands.{all_known, length_of, Explained, reports_in, After, target_asked}

-- no end of a range passes the other where a verdict leaves places in it
pub ends_stay : (verdict : GroupVerdict) (a b : ℕ) → a ≤ b → LeavesPlace verdict a b →
    (min b (from_after verdict a b) ≡ from_after verdict a b) × (max a (to_after verdict a b) ≡ to_after verdict a b)
ends_stay Lower a b order leaves = let room : a < target a b = leaves in (omega arith, omega arith)
ends_stay Higher a b order leaves = let room : target a b < b = leaves in (omega arith, omega arith)
ends_stay Done a b order leaves = (omega arith, omega arith)

-- the round after a verdict, as if no end could pass the other
abbrev next_round : GroupVerdict → State → State
next_round verdict old = record {
  rank = old.rank;
  total = old.total;
  lo = old.lo;
  hi = old.hi;
  a = from_after verdict old.a old.b;
  b = to_after verdict old.a old.b;
  made = saturated (old.made + 1);
  seats = map (seat_after verdict) old.seats;
}

-- it is the one that a verdict leaves, if the verdict leaves places in the range
moves_to_next : (verdict : GroupVerdict) (old : State) → old.a ≤ old.b → LeavesPlace verdict old.a old.b →
    moved_state verdict old ≡ next_round verdict old
moves_to_next verdict old order leaves =
    let stay = ends_stay verdict old.a old.b order leaves in
    ap₂ {C = State} (λ (a b : ℕ). record {
      rank = old.rank;
      total = old.total;
      lo = old.lo;
      hi = old.hi;
      a = a;
      b = b;
      made = saturated (old.made + 1);
      seats = map (seat_after verdict) old.seats;
    }) stay.0 stay.1

module _ {T : Type 0} {g : Group T} {old : State} (trace : GroupTrace T)
    (after : After g old trace) where
  -- a round has so few verdicts that one more is counted
  pub one_more_counted : g.hi < 2 ^ 64 → saturated (old.made + 1) ≡ suc (length (verdicts trace))
  one_more_counted small =
      let order = after.in_range.order in
      let few : length (verdicts trace) ≤ 64
      = few_halvings (old.b - old.a + 1) (length (verdicts trace)) (omega arith) (omega (arith, after.halved)) in
      omega (arith, after.made_is)

  module _ {verdict : GroupVerdict} (w : WeighsAll old verdict) where
    -- the seat at an index has given counts that are possible
    gave_at : (i : ℕ) (value : SeatValue) → slice_get old.seats i ≡ Some value → Gave old.a old.b value
    gave_at i value is =
        let given = some_given old.seats i value w.all is in
        record { counts = given.0; given = given.1; possible = (given_is (after.seats (suc i) value is) (Some given.0) given.1).2 }

    -- so has each seat
    all_gave : Each (Gave old.a old.b) old.seats
    all_gave = each_by_index (Gave old.a old.b) old.seats gave_at

    -- the verdict is the one on the reports of all
    verdict_is : verdict_on g.k (sum g.declared) (map counts_of old.seats) ≡ verdict
    verdict_is =
        let below = sum_by (λ (value : SeatValue). below_of value.given) old.seats in
        let above = sum_by (λ (value : SeatValue). above_of value.given) old.seats in
        verdict_gathered g.k (sum g.declared) old.seats ∙ ap₂ (weight_of below above) (sym after.rank_is) (sym after.total_is) ∙ w.true_verdict

    -- so whatever lists explain the reports, it is that of weighing them
    pub verdict_of_lists : (lists : List (List T)) → Explained g (reports_in g trace) lists →
        weighed g.place g.k lists (target old.a old.b) ≡ verdict
    verdict_of_lists lists e =
        let m = target old.a old.b in
        let same : length lists ≡ length (map counts_of old.seats) = omega (arith, e.one_a_seat, after.one_a_seat, length-map old.seats counts_of) in
        verdict_weighed g.place g.k (sum g.declared) lists (explained_lengths e) m (map counts_of old.seats) verdict
        (zip_by_index (λ (xs : List T) (counts : Counts). HasCounts m (map g.place xs) counts) lists (map counts_of old.seats) same
        (λ i xs counts is at.
        let seat = read_of_map counts_of old.seats i counts at in
        let gave = gave_at i seat.0 seat.1 in
        subst (HasCounts m (map g.place xs)) (sym (gave_counts gave) ∙ seat.2)
        (explained_counts (after.seats (suc i) seat.0 seat.1) gave.counts gave.given g.place xs (explained_at e i xs is)))) verdict_is

    module _ (on : GoesOn verdict) where
      -- the verdict leaves places in the range, and the rank among them
      narrowed : LeavesPlace verdict old.a old.b
          × RankInRange g.k (sum g.declared) (from_after verdict old.a old.b) (to_after verdict old.a old.b) (all_known (map (seat_after verdict) old.seats))
      narrowed =
          let n = sum g.declared in
          let i = in_range_after g.k n old.a old.b verdict (all_known old.seats) (map counts_of old.seats) on after.in_range
          (all_possible old.a old.b old.seats all_gave) verdict_is in (
            i.0,
            subst (RankInRange g.k n (from_after verdict old.a old.b) (to_after verdict old.a old.b)) (known_after_all old.a old.b verdict old.seats all_gave) i.1,
          )

      -- the state of each seat after the verdict stands to the same reports
      seats_next : (number : ℕ) (value : SeatValue) → seat_number (map (seat_after verdict) old.seats) number ≡ Some value →
          SeatStands g.lo g.hi (length_of g number) (verdict ∷ verdicts trace) (from_after verdict old.a old.b) (to_after verdict old.a old.b) value
          (reports_in g trace number) false
      seats_next number value is =
          let was = seat_of_map (seat_after verdict) old.seats number value is in
          let gave = gave_at (number - 1) was.0 (seat_read old.seats number was.0 was.1) in
          subst (λ (seat : SeatValue).
          SeatStands g.lo g.hi (length_of g number) (verdict ∷ verdicts trace) (from_after verdict old.a old.b) (to_after verdict old.a old.b) seat
          (reports_in g trace number) false) was.2
          (seat_stands_after (after.seats number was.0 was.1) gave.counts verdict gave.given on after.in_range.order narrowed.0)

      -- the next round stands to the trace with the verdict
      after_next : (stock : ℕ) → g.hi < 2 ^ 64 → After g (next_round verdict old) (stepped stock (Ok verdict) ∷ trace)
      after_next stock small = record {
        rank_is = after.rank_is;
        total_is = after.total_is;
        from_lo = after.from_lo;
        to_hi = after.to_hi;
        left_is = ap {B = Left} (λ (left : Left). record { a = from_after verdict left.a left.b; b = to_after verdict left.a left.b }) after.left_is;
        made_is = one_more_counted small;
        none_done = (on, after.none_done);
        in_range = narrowed.1;
        halved = halved_after old.a old.b (length (verdicts trace)) (g.hi - g.lo + 1) verdict on after.in_range.order narrowed.0 after.halved;
        one_a_seat = length-map old.seats (seat_after verdict) ∙ after.one_a_seat;
        seats = seats_next;
        by_judge = λ lists e. (ap (weighed g.place g.k lists) (target_asked after) ∙ verdict_of_lists lists e, after.by_judge lists e);
      }

      -- so does the round that the verdict leaves
      pub after_verdict : (stock : ℕ) → g.hi < 2 ^ 64 → After g (moved_state verdict old) (stepped stock (Ok verdict) ∷ trace)
      after_verdict stock small =
          subst (λ (now : State). After g now (stepped stock (Ok verdict) ∷ trace))
          (sym (moves_to_next verdict old after.in_range.order narrowed.0)) (after_next stock small)
