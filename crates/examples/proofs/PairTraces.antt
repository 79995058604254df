-- What the law of a pair's histories forbids.
use Rattle.std.proofs.Common.{◌≡◌, ℕ, zero, suc, ◌<◌, ◌≤◌, ◌≢◌, Bool, true, false, not, ◌&&◌, eqb, nat_lt, List, [], ◌∷◌, length, get_or, refl, le_of_suc-le-suc, arith, Ok}
use Rattle.std.proofs.lemmas.Bool.{both_ways, and_parts, eqb-false, not-true}
use Rattle.elements.specs.ByPlaces.{numbers_trichotomy, numbers_transitive}
use Rattle.elements.specs.Orders.{IsOrder, NeverFalls}
use Rattle.elements.specs.declared.entry.Entry.{Entry}
use Rattle.elements.specs.declared.entry.Entry.TheVariants.{Element}
use Rattle.pair.specs.PairLaws.{AllDifferent}
use Rattle.pair.specs.PairReports.{Explains, Report}
use Rattle.pair.specs.Bisection.{joint_pair, by_side}
use Rattle.pair.specs.declared.side.Side.{Side}
use Rattle.pair.specs.declared.side.Side.TheVariants.{A, B}
use Rattle.pair.proofs.ExplainedReports.{explained_consistent}
use Rattle.elements.specs.Ranks.{Ranked}
use Rattle.elements.proofs.SortedLists.{sorted_never_falls}
use Rattle.referees.specs.declared.verdict.PairVerdict.{PairVerdict}
use Rattle.referees.specs.declared.verdict.PairVerdict.TheVariants.{Before, NotBefore}
use Rattle.runs.specs.Traces.{stepped, has_reported}
use Rattle.runs.specs.HistoryLaw.{ExplainAll, SomeMissing}
use Rattle.runs.specs.Learning.{LookAlike}
use Rattle.runs.specs.Protocols.{Protocol}
use Rattle.pair.specs.Histories.{PairTrace}
use Rattle.pair.specs.PairProtocol.{pair_protocol, same_side}
use Rattle.examples.specs.ForbiddenPairTraces.{PairLawForbids, first_reports, first_round, second_round, last_reports, gives}
use Rattle.examples.proofs.AskedAnswers.{accepted_shows, missing_shows, empty_shows}

-- the order of numbers
numbers : IsOrder nat_lt
numbers = record { trichotomy = λ a b. numbers_trichotomy a b (a ≡ b) (λ e. e) (λ e. e); transitive = numbers_transitive }

-- the two honest lists
abbrev list_of : Side → List ℕ
list_of A = 12 ∷ 40 ∷ 55 ∷ []
list_of B = 20 ∷ 31 ∷ 70 ∷ []

never_falls : (side : Side) → NeverFalls nat_lt (list_of side)
never_falls A = sorted_never_falls numbers (list_of A) ((refl, (refl, tt)), ((refl, tt), (tt, tt)))
never_falls B = sorted_never_falls numbers (list_of B) ((refl, (refl, tt)), ((refl, tt), (tt, tt)))

-- a number stands nowhere in a list
abbrev stands_nowhere : ℕ → List ℕ → Bool
stands_nowhere x [] = true
stands_nowhere x (y ∷ ys) = let rest = stands_nowhere x ys in not (eqb x y) && rest

-- no number stands twice in a list
abbrev none_twice : List ℕ → Bool
none_twice [] = true
none_twice (x ∷ xs) = let rest = none_twice xs in stands_nowhere x xs && rest

-- what stands nowhere in a list stands at no index of it
nowhere_at : (x : ℕ) (xs : List ℕ) (j d : ℕ) → stands_nowhere x xs ≡ true → j < length xs → x ≢ get_or xs j d
nowhere_at x [] j d h l = absurd (omega arith)
nowhere_at x (y ∷ ys) zero d h l = eqb-false x y (not-true (eqb x y) (and_parts (not (eqb x y)) (stands_nowhere x ys) h).0)
nowhere_at x (y ∷ ys) (suc j) d h l = nowhere_at x ys j d (and_parts (not (eqb x y)) (stands_nowhere x ys) h).1 (le_of_suc-le-suc l)

-- the test of all numbers decides that they are different
different : (xs : List ℕ) → none_twice xs ≡ true → AllDifferent xs
different [] h i j d l m = absurd (omega arith)
different (x ∷ xs) h i zero d l m = absurd (omega arith)
different (x ∷ xs) h zero (suc j) d l m = nowhere_at x xs j d (and_parts (stands_nowhere x xs) (none_twice xs) h).0 (le_of_suc-le-suc m)
different (x ∷ xs) h (suc i) (suc j) d l m =
    different xs (and_parts (stands_nowhere x xs) (none_twice xs) h).1 i j d (le_of_suc-le-suc l) (le_of_suc-le-suc m)

-- 40 is the element of rank 4 of both lists
ranked : Ranked nat_lt 4 (joint_pair list_of) 40
ranked = record { first = omega arith; last = omega arith; is = λ d. refl }

-- lists, one a side, that explain what each side's reports are
abbrev ExplainTrace : PairTrace ℕ → Type 0
ExplainTrace trace = ExplainAll (pair_protocol nat_lt (by_side 3 3) 4) list_of trace

-- the honest lists explain the first round, the second, and the last reports
explain_first : (verdict : PairVerdict) → ExplainTrace (first_round verdict)
explain_first verdict = record {
  one_a_seat = tt;
  each = elim [
    | A ↦ λ s. record { declared = refl; in_order = never_falls A; shows = (refl, tt) }
    | B ↦ λ s. record { declared = refl; in_order = never_falls B; shows = (refl, tt) }
  ];
}

explain_second : (verdict : PairVerdict) → ExplainTrace (second_round verdict)
explain_second verdict = record {
  one_a_seat = tt;
  each = elim [
    | A ↦ λ s. record { declared = refl; in_order = never_falls A; shows = (refl, (refl, tt)) }
    | B ↦ λ s. record { declared = refl; in_order = never_falls B; shows = (refl, (refl, tt)) }
  ];
}

explain_last : ExplainTrace last_reports
explain_last = record {
  one_a_seat = tt;
  each = elim [
    | A ↦ λ s. record { declared = refl; in_order = never_falls A; shows = (refl, (refl, (refl, tt))) }
    | B ↦ λ s. record { declared = refl; in_order = never_falls B; shows = (refl, (refl, (refl, tt))) }
  ];
}

-- 40, A's first report, is explained by its list
explain_40 : Explains nat_lt A 4 3 (record { place = 2; entry = Element 40 } ∷ []) (list_of A)
explain_40 = record { declared = refl; in_order = never_falls A; shows = (refl, tt) }

-- no list explains 55 at place 1 and 40 at place 2
none_explains : (xs : List ℕ) → Explains nat_lt A 4 3 (record { place = 1; entry = Element 55 } ∷ record { place = 2; entry = Element 40 } ∷ []) xs → ⊥
none_explains xs e =
    let c = explained_consistent numbers A 4 3 _ (omega arith, (omega arith, tt)) xs e in
    both_ways true (c.rise.0.1.0 (omega arith)) refl

-- both have 31 alone, which explains that they report it
abbrev only_31 : (side : Side) → List ℕ
only_31 side = 31 ∷ []

alone_never_falls : NeverFalls nat_lt (31 ∷ [])
alone_never_falls = sorted_never_falls numbers (31 ∷ []) (tt, tt)

explain_equals : ExplainAll (pair_protocol nat_lt (by_side 1 1) 2) only_31 (stepped 9 (Ok Before) ∷ gives B 31 ∷ gives A 31 ∷ [])
explain_equals = record {
  one_a_seat = tt;
  each = elim [
    | A ↦ λ s. record { declared = refl; in_order = alone_never_falls; shows = (refl, tt) }
    | B ↦ λ s. record { declared = refl; in_order = alone_never_falls; shows = (refl, tt) }
  ];
}

-- the pair to which these traces belong
abbrev this_pair : Protocol Side (Entry ℕ) PairVerdict ℕ (Report ℕ)
this_pair = pair_protocol nat_lt (by_side 3 3) 4

-- after reports of both sides in a round none is missing
none_missing : (past : PairTrace ℕ) → has_reported same_side A past ≡ true → has_reported same_side B past ≡ true → SomeMissing this_pair past → ⊥
none_missing past a b (A, seated, not_yet) = both_ways (has_reported same_side A past) not_yet a
none_missing past a b (B, seated, not_yet) = both_ways (has_reported same_side B past) not_yet b

pub pair_law_forbids : PairLawForbids
pair_law_forbids = record {
  refuses_possible = λ law.
      (law.events.0.in_turn (record { seated = tt; not_yet = refl })).refused_unexplained (λ e. absurd cc) (list_of A) explain_40;
  refuses_in_turn = λ law.
      let judged = law.events.0.in_turn (record { seated = tt; not_yet = refl }) in
      absurd (let e = judged.accepted_or_impossible (λ e. absurd cc) in cc);
  accepts_impossible = λ law. none_explains (law.some_lists.0 A) (law.some_lists.1.each A tt);
  accepts_out_of_turn = λ law. absurd (let e = law.events.0.out_of_turn (λ turn. both_ways true turn.not_yet refl) in cc);
  refuses_out_of_turn = λ law. absurd (let e = law.events.0.out_of_turn (λ turn. both_ways true turn.not_yet refl) in cc);
  other_result = λ law. let e : 40 ≡ 31 = (law.events.0.2.result_is list_of explain_last).is 0 in omega arith;
  wrong_count = λ law. let e : 3 ≡ 2 = law.events.0.2.count_is in omega arith;
  wrong_break_off = λ law. let e : 2 ≡ 1 = law.events.0 in omega arith;
  same_verdict = λ law.
      let w = law.first_rebuilt list_of (explain_first Before) (different (joint_pair list_of) refl) 40 ranked in
      let e : NotBefore ∷ Before ∷ [] ≡ Before ∷ w.0 = w.1 A tt in
      absurd cc;
  guessed_verdict = λ law.
      let w = law.first_rebuilt list_of (explain_second NotBefore) (different (joint_pair list_of) refl) 40 ranked in
      let e : NotBefore ∷ Before ∷ [] ≡ NotBefore ∷ NotBefore ∷ w.0 = w.1 A tt in
      absurd cc;
  other_verdict_on_equals = λ law.
      let w = law.first_made only_31 explain_equals in
      let e : NotBefore ∷ [] ≡ Before ∷ w.0 = w.1 in
      absurd cc;
  early_finish = λ law. let l : 4 ≤ 2 = law.events.0.2.count_fits.enough in omega arith;
  steps_unreported = λ law. both_ways false refl ((accepted_shows this_pair law.events.0).0 B tt);
  steps_unpaid = λ law. let some : 0 < 0 = (accepted_shows this_pair law.events.0).1 in omega arith;
  refuses_reported = λ law. none_missing first_reports refl refl (missing_shows this_pair law.events.0);
  refuses_paid = λ law. let none : 1 ≡ 0 = (empty_shows this_pair law.events.0).1 in omega arith;
  empty_before_missing = λ law. both_ways false refl ((empty_shows this_pair law.events.0).0 B tt);
  finishes_unreported = λ law. both_ways false refl ((accepted_shows this_pair law.events.0.1).0 B tt);
  finishes_unpaid = λ law. let some : 0 < 0 = (accepted_shows this_pair law.events.0.1).1 in omega arith;
  refuses_finish_reported = λ law. none_missing last_reports refl refl (missing_shows this_pair law.events.0.1);
  refuses_finish_paid = λ law. let none : 1 ≡ 0 = (empty_shows this_pair law.events.0.1).1 in omega arith;
  finishes_unasked = λ law. both_ways false refl law.events.0.0;
  tells_another = λ tells.
      let alike : LookAlike this_pair A (first_round NotBefore) (first_round Before) = record {
        lists = list_of;
        explain_one = explain_first NotBefore;
        rebuildable = different (joint_pair list_of) refl;
        others = list_of;
        explain_other = explain_first Before;
        others_rebuildable = different (joint_pair list_of) refl;
        same_list = refl;
        x = 40;
        of_lists = ranked;
        of_others = ranked;
      } in
      let e : NotBefore ∷ [] ≡ Before ∷ [] = tells A tt alike refl in
      absurd cc;
}
