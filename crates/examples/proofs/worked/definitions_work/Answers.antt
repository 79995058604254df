use Rattle.std.proofs.Common.{refl, arith, lit<, lit≤}
use Rattle.sheets.specs.declared.kind.Kind.TheVariants as kind
use Rattle.std.specs.Fmt.{digits}
use Rattle.examples.proofs.worked.definitions_work.Goals as goal

pub returns : goal.returns
unfolding digits
returns c = record {
  layouts = record { empty = refl; two_delays = refl; one_level = refl };
  kinds = record {
    of_2 = refl;
    not_of_2 = λ e. omega (arith, e);
    known_2 = λ u e. e.1 kind.LinkLevels refl;
    none_of_3 = elim [ kind.Delays ↦ λ e. omega (arith, e) | kind.LinkLevels ↦ λ e. omega (arith, e) ];
  };
  places = record { first = refl; last = refl };
  ranks = record {
    in_order = refl;
    fourth = record { first = lit≤ tt; last = lit≤ tt; is = λ d. refl };
    fourth_counted = record { few = lit< tt; many = lit≤ tt };
    repeats_kept = record { first = lit≤ tt; last = lit≤ tt; is = λ d. refl };
  };
  percentiles = record { median_of_11 = refl; median_of_none = refl; fiftieth_of_11 = refl; raised_to_1 = refl; ninetieth_of_6 = refl; hundredth = refl };
  lines = record { of_sheet = refl; of_seat = refl; of_far_spot = refl; of_run = refl; of_rank_call = refl; of_empty_list = refl; of_report = refl };
}
