-- What the law of a group's histories forbids.
use Rattle.std.proofs.Common.{◌≡◌, ℕ, zero, suc, ◌+◌, ◌<◌, ◌≤◌, Bool, true, false, ◌&&◌, ◌==◌, leb, nat_lt, List, [], ◌∷◌, get_or, refl, arith}
use Rattle.std.proofs.lemmas.Bool.{both_ways, and_parts, leb-true}
use Rattle.elements.specs.Orders.{OneElementEach}
use Rattle.group.specs.GroupProtocol.{group_protocol}
use Rattle.group.specs.Histories.{GroupTrace}
use Rattle.elements.specs.Ranks.{joint, Ranked}
use Rattle.referees.specs.declared.verdict.GroupVerdict.{GroupVerdict}
use Rattle.referees.specs.declared.verdict.GroupVerdict.TheVariants.{Lower, Higher, Done}
use Rattle.runs.specs.HistoryLaw.{ExplainAll}
use Rattle.runs.specs.Protocols.{Protocol}
use Rattle.runs.specs.Traces.{has_reported}
use Rattle.group.specs.SeatCounts.{Within}
use Rattle.group.specs.Ranges.{target}
use Rattle.group.specs.Searches.{Search, done, lower, higher}
use Rattle.group.specs.SeatRules.{Round, round as one_round, NeverEmpty, Report, reports, Explains}
use Rattle.group.specs.declared.counts.Counts.{Counts}
use Rattle.group.proofs.Explained.{explained_if_possible}
use Rattle.examples.specs.ForbiddenGroupTraces.{GroupLawForbids, itself, counts, all_reported, at_8, at_12, at_9}
use Rattle.examples.proofs.AskedAnswers.{accepted_shows, missing_shows, empty_shows}

-- the honest lists
abbrev lists : List (List ℕ)
lists = (3 ∷ 9 ∷ []) ∷ (4 ∷ []) ∷ (9 ∷ 12 ∷ []) ∷ []

-- 9 is the element of rank 3 of all
ranked : Ranked nat_lt 3 (joint lists) 9
ranked = record { first = omega arith; last = omega arith; is = λ d. refl }

-- the first verdict of a run is what the judge says of the first target
first_judged : {judge : ℕ → GroupVerdict} {a b m : ℕ} {verdict : GroupVerdict} {later : List GroupVerdict} → Search judge a b (verdict ∷ later) m → judge (target a b) ≡ verdict
first_judged (done order is) = is
first_judged (lower order is run) = is
first_judged (higher order is run) = is

-- after higher the run goes on above the target
after_higher : {judge : ℕ → GroupVerdict} {a b m : ℕ} {later : List GroupVerdict} → Search judge a b (Higher ∷ later) m → Search judge (target a b + 1) b later m
after_higher (higher order is run) = run

-- a run whose last verdict is lower is none
never_ends_lower : {judge : ℕ → GroupVerdict} {a b m : ℕ} → Search judge a b (Lower ∷ []) m → ⊥
never_ends_lower (lower order is run) = no_verdicts run
  where
    no_verdicts : {judge : ℕ → GroupVerdict} {a b m : ℕ} → Search judge a b [] m → ⊥
    no_verdicts run = elim run [ ]

-- each number from 0 to 15 is the place of one number
each_one : OneElementEach itself 0 15
each_one n low high = (n, refl, λ y e. e)

-- the protocol of these seats
abbrev honest_protocol : Protocol ℕ Counts GroupVerdict ℕ Report
honest_protocol = group_protocol nat_lt itself (2 ∷ 1 ∷ 2 ∷ []) 0 15 3

-- lists that explain a trace
abbrev ExplainTrace : GroupTrace ℕ → Type 0
ExplainTrace trace = ExplainAll honest_protocol lists trace

-- there are three seats
abbrev AtSeats : (ℕ → Type 0) → Type 0
AtSeats P = P 1 × P 2 × P 3

-- what holds of the three holds of each seat that there is
each_seat : (P : ℕ → Type 0) → AtSeats P → (number : ℕ) → (1 ≤ number) × (number ≤ 3) → P number
each_seat P at zero seated = absurd (omega (arith, seated.0))
each_seat P at (suc zero) seated = at.0
each_seat P at (suc (suc zero)) seated = at.1
each_seat P at (suc (suc (suc zero))) seated = at.2
each_seat P at (suc (suc (suc (suc n)))) seated = absurd (omega (arith, seated.1))

-- whether no number of a list is over 15
abbrev within_bounds : List ℕ → Bool
within_bounds [] = true
within_bounds (x ∷ xs) = let rest = within_bounds xs in leb x 15 && rest

-- then all are from 0 to 15
within_of : (xs : List ℕ) → within_bounds xs ≡ true → Within itself 0 15 xs
within_of [] h = tt
within_of (x ∷ xs) h = let parts = and_parts (leb x 15) (within_bounds xs) h in ((omega arith, leb-true x 15 parts.0), within_of xs parts.1)

-- the honest lists explain the round at 8, those up to 12, and all four
explain_at_8 : (verdict : GroupVerdict) → ExplainTrace (at_8 verdict)
explain_at_8 verdict = record {
  one_a_seat = refl;
  each = each_seat _ (
    record { declared = refl; within = within_of (3 ∷ 9 ∷ []) refl; shows = ((refl, refl), tt) },
    record { declared = refl; within = within_of (4 ∷ []) refl; shows = ((refl, refl), tt) },
    record { declared = refl; within = within_of (9 ∷ 12 ∷ []) refl; shows = ((refl, refl), tt) },
  );
}

explain_at_12 : (verdict : GroupVerdict) → ExplainTrace (at_12 verdict)
explain_at_12 verdict = record {
  one_a_seat = refl;
  each = each_seat _ (
    record { declared = refl; within = within_of (3 ∷ 9 ∷ []) refl; shows = ((refl, refl), ((refl, refl), tt)) },
    record { declared = refl; within = within_of (4 ∷ []) refl; shows = ((refl, refl), ((refl, refl), tt)) },
    record { declared = refl; within = within_of (9 ∷ 12 ∷ []) refl; shows = ((refl, refl), ((refl, refl), tt)) },
  );
}

explain_at_9 : ExplainTrace at_9
explain_at_9 = record {
  one_a_seat = refl;
  each = each_seat _ (
    record { declared = refl; within = within_of (3 ∷ 9 ∷ []) refl; shows = ((refl, refl), ((refl, refl), ((refl, refl), ((refl, refl), tt)))) },
    record { declared = refl; within = within_of (4 ∷ []) refl; shows = ((refl, refl), ((refl, refl), ((refl, refl), ((refl, refl), tt)))) },
    record { declared = refl; within = within_of (9 ∷ 12 ∷ []) refl; shows = ((refl, refl), ((refl, refl), ((refl, refl), ((refl, refl), tt)))) },
  );
}

-- seat 1 is there
seated_1 : (1 ≤ 1) × (1 ≤ 3)
seated_1 = (omega arith, omega arith)

-- seat 1's rounds, where it counts two places below 9
abbrev lying_rounds : List Round
lying_rounds =
    one_round (counts 1 1) Higher ∷ one_round (counts 2 0) Lower ∷ one_round (counts 2 0) Lower ∷ one_round (counts 2 0) Done ∷ []

-- no list explains them: at the edge of the range, one place is known to be below
none_explains : (xs : List ℕ) → Explains itself 0 15 2 (reports 0 15 lying_rounds) xs → ⊥
none_explains xs e =
    let never : NeverEmpty 0 15 lying_rounds =
    (omega arith, omega arith, (omega arith, omega arith, (omega arith, omega arith, (omega arith, refl, omega arith)))) in
    let possible = (explained_if_possible itself 0 15 each_one).possible 0 15 2 lying_rounds never xs e in
    let edge : ◌≡◌ {A = ℕ} 2 1 = possible.1.1.1.0.edge_a refl in
    omega arith

-- the same reports, the newest first
none_explains_newest : (xs : List ℕ) →
    Explains itself 0 15 2
    (record { target = 9; counts = counts 2 0 } ∷ record { target = 10; counts = counts 2 0 } ∷ record { target = 12; counts = counts 2 0 }
    ∷ record { target = 8; counts = counts 1 1 } ∷ []) xs → ⊥
none_explains_newest xs e =
    none_explains xs (record {
      declared = e.declared;
      within = e.within;
      shows = (e.shows.1.1.1.0, (e.shows.1.1.0, (e.shows.1.0, (e.shows.0, tt))));
    })

pub group_law_forbids : GroupLawForbids
group_law_forbids = record {
  refuses_possible = λ law.
      (law.events.0.in_turn (record { seated = seated_1; not_yet = refl })).refused_unexplained (λ e. absurd cc) (3 ∷ 9 ∷ [])
      (record { declared = refl; within = within_of (3 ∷ 9 ∷ []) refl; shows = ((refl, refl), tt) });
  refuses_in_turn = λ law.
      let judged = law.events.0.in_turn (record { seated = seated_1; not_yet = refl }) in
      absurd (let e = judged.accepted_or_impossible (λ e. absurd cc) in cc);
  accepts_impossible = λ law. none_explains_newest (get_or law.some_lists.0 0 []) (law.some_lists.1.each 1 seated_1);
  accepts_out_of_turn = λ law. absurd (let e = law.events.0.out_of_turn (λ turn. both_ways true turn.not_yet refl) in cc);
  accepts_unknown_seat = λ law.
      absurd (let e = law.events.0.out_of_turn (λ turn. let l : 4 ≤ 3 = turn.seated.1 in omega arith) in cc);
  other_result = λ law. let e : 9 ≡ 4 = (law.events.0.2.result_is lists explain_at_9).is 0 in omega arith;
  wrong_count = λ law. let e : 3 ≡ 4 = law.events.0.2.count_is in omega arith;
  wrong_break_off = λ law. let e : 2 ≡ 1 = law.events.0 in omega arith;
  same_verdict = λ law.
      let w = law.first_rebuilt lists (explain_at_8 Lower) tt 9 ranked in
      let e : Higher ≡ Lower = first_judged (w.1 1 seated_1).1 in
      absurd cc;
  guessed_verdict = λ law.
      let w = law.first_rebuilt lists (explain_at_12 Higher) tt 9 ranked in
      let e : Lower ≡ Higher = first_judged (after_higher (w.1 1 seated_1).1) in
      absurd cc;
  refuses_finish = λ law. absurd (let e = law.events.0.1.1 in cc);
  asks_at_finish = λ law. both_ways true law.events.0.0 refl;
  steps_unreported = λ law. both_ways false refl ((accepted_shows honest_protocol law.events.0).0 3 (omega arith, omega arith));
  steps_unpaid = λ law. let e : 0 < 0 = (accepted_shows honest_protocol law.events.0).1 in omega arith;
  refuses_reported = λ law.
      let some = missing_shows honest_protocol law.events.0 in
      let Reported : ℕ → Type 0 = λ number. has_reported (λ one other. one == other) number all_reported ≡ true in
      both_ways _ some.2 (each_seat Reported (refl, refl, refl) some.0 some.1);
  refuses_paid = λ law. let e : 1 ≡ 0 = (empty_shows honest_protocol law.events.0).1 in omega arith;
  empty_before_missing = λ law. both_ways false refl ((empty_shows honest_protocol law.events.0).0 3 (omega arith, omega arith));
  early_finish = λ law. never_ends_lower (after_higher (law.events.0.2.all_rebuilt lists (explain_at_12 Lower) tt 9 ranked 1 seated_1).1);
}
