use Rattle.std.proofs.Common.{length, refl, ap, arith, lit<}
use Rattle.referees.specs.Verdicts.{verdict_number}
use Rattle.referees.specs.Plays.{SpendsEach, nothing_asked, one_more}
use Rattle.std.specs.Fmt.{digits}
use Rattle.examples.proofs.worked.referees_work.Goals as goal

-- two answered questions go by one state between them
two_turns : {R : Type 0} {spends : R → R → Type 0} {old new : R} → SpendsEach spends old 2 new → (between : R) × (spends old between × spends between new)
two_turns (one_more (one_more nothing_asked first) second) = (_, (first, second))

pub returns : goal.returns
unfolding digits
returns c = record {
  verdicts = record { before = refl; equal = refl; marks = refl; equal_marks = refl; at_k = refl; past_n = refl; neither = refl; sums_at_k = refl; sums_past_n = refl; no_wrap = refl; lesser = refl; lesser_of_equal = refl };
  marks = record { mark_operand = refl; element_operand = refl; mark_taken = refl };
  questions = record {
    answer = (refl, refl);
    refusal = (refl, refl, refl);
    not_free = λ e. omega (arith, e.1);
    not_of_two = λ e. omega (arith, e.1);
    not_early = λ e. omega (arith, e.1);
    not_late = λ e. omega (arith, e.1);
    not_untrue = λ e. omega (arith, ap verdict_number e.0);
  };
  payers = record {
    both = record { own = refl; below = refl; spent_below = refl };
    not_one = λ e. omega (arith, e.own);
    the_first = record { first = λ h. (refl, refl, refl); then_second = λ h. absurd (omega (arith, h)) };
    then_the_second = record { first = λ h. absurd (omega (arith, h)); then_second = λ h. (refl, refl, refl) };
    not_second_first = λ e. omega (arith, (e.first (lit< tt)).1);
    turn_by_turn =
        one_more (one_more nothing_asked (record { first = λ h. (refl, refl, refl); then_second = λ h. absurd (omega (arith, h)) }))
        (record { first = λ h. absurd (omega (arith, h)); then_second = λ h. (refl, refl, refl) });
    not_second_twice = λ e.
        let turns = two_turns e in
        let first_pays = turns.1.0.first (lit< tt) in
        let second_pays = turns.1.1.then_second (omega (arith, first_pays.1)) in
        omega (arith, first_pays.1, second_pays.0);
    two_words = refl;
    not_one_word = λ e. omega (arith, ap length e);
    two_words_below = record { own = refl; below = refl; spent_below = refl };
    not_one_word_below = λ e. omega (arith, ap length e.spent_below);
  };
  shares = record { of_5_by_7 = refl; together_again = refl };
  stocks = record { capped = refl; of_pile = refl; of_smaller_part = refl };
  plays = record { second = refl; third = refl; printed_second = refl; printed_third = refl };
}
