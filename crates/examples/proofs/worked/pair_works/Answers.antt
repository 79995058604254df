use Rattle.std.proofs.Common.{◌≡◌, ℕ, sym, refl, arith}
use Rattle.std.proofs.lemmas.Bool.{false≢true}
use Rattle.pair.specs.Exchanges.{opened, compared, finished}
use Rattle.pair.specs.declared.side.Side.{Side}
use Rattle.pair.specs.declared.side.Side.TheVariants.{A, B}
use Rattle.elements.specs.declared.entry.Entry.{Entry}
use Rattle.elements.specs.declared.entry.Entry.TheVariants.{Element}
use Rattle.examples.proofs.worked.pair_works.Goals as goal

-- what both sides report in the three rounds for rank 4
abbrev first : Side → Entry ℕ
first A = Element 40
first B = Element 31

abbrev second : Side → Entry ℕ
second A = Element 12
second B = Element 70

abbrev third : Side → Entry ℕ
third A = Element 40
third B = Element 70

pub returns : goal.returns
returns c = record {
  rows = record {
    length_1 = refl;
    length_4 = refl;
    length_5 = refl;
    length_most = refl;
    a_for_3 = refl;
    b_for_3 = refl;
    a_for_2 = refl;
    a_for_5 = refl;
    kind_below = refl;
    kind_element = refl;
    kind_above = refl;
  };
  bisections = record {
    rank_1 = refl;
    result_1 = refl;
    rank_3 = refl;
    result_3 = refl;
    rank_4 = refl;
    result_4 = refl;
    rank_6 = refl;
    result_6 = refl;
    a_empty = refl;
    result_a_empty = refl;
  };
  without_belows = record { given = refl; offset_a = refl; offset_b = refl; result = refl };
  rebuilt = record { by_a = refl; by_b = refl; tie = refl; tie_by_a = refl; tie_by_b = refl };
  tests = record { first_place = refl; second_place = refl; last_place = refl; first = refl; no_mark = refl; falls = refl; same = refl; again = refl; less_now = refl };
  bounding = record { below_40 = refl; above_12 = refl; of_b = refl };
  exchanges = record {
    rank_4 = (
      _,
      refl,
      refl,
      finished third
          (compared second
          (compared first opened
          (elim [
            | A ↦ record { kind = refl; not_before_lower = tt; not_after_higher = tt; same_again = tt }
            | B ↦ record { kind = refl; not_before_lower = tt; not_after_higher = tt; same_again = tt }
          ]))
          (elim [
            | A ↦ record {
              kind = refl;
              not_before_lower = (λ n. absurd (omega (arith, n.0)), tt);
              not_after_higher = (λ n. refl, tt);
              same_again = (λ e. absurd (omega (arith, e)), tt);
            }
            | B ↦ record {
              kind = refl;
              not_before_lower = (λ n. refl, tt);
              not_after_higher = (λ n. absurd (omega (arith, n.0)), tt);
              same_again = (λ e. absurd (omega (arith, e)), tt);
            }
          ]))
          (elim [
            | A ↦ record {
              kind = refl;
              not_before_lower = (λ n. refl, (λ n. refl, tt));
              not_after_higher = (λ n. absurd (omega (arith, n.0)), (λ n. refl, tt));
              same_again = (λ e. absurd (omega (arith, e)), (λ e. refl, tt));
            }
            | B ↦ record {
              kind = refl;
              not_before_lower = (λ n. refl, (λ n. refl, tt));
              not_after_higher = (λ n. refl, (λ n. absurd (omega (arith, n.0)), tt));
              same_again = (λ e. refl, (λ e. absurd (omega (arith, e)), tt));
            }
          ]),
    );
    not_another = λ r. let e = r.same_again.1.0 refl in let z : ◌≡◌ {A = ℕ} 40 30 = cc in omega (arith, z);
    not_less = λ r. false≢true (sym (r.not_after_higher.0 (omega arith, (λ l. omega arith, tt))));
  };
}
