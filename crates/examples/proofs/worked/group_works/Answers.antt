use Rattle.std.proofs.Common.{◌≡◌, ℕ, [], ◌∷◌, refl, rules, true, lit≤}
use Rattle.group.specs.Exchanges.{done, lower, higher}
use Rattle.group.specs.Searches.{done as run_done, lower as run_lower, higher as run_higher}
use Rattle.group.specs.SeatRules.{Possible, keeps_rules}
use Rattle.group.specs.declared.counts.Counts.{Counts}
use Rattle.group.specs.declared.count_bounds.CountBounds.{CountBounds}
use Rattle.examples.specs.WorkedGroups.{counts, known}
use Rattle.examples.proofs.worked.group_works.Goals as goal

-- counts that pass the test are possible
passed : (a b : ℕ) (seat : CountBounds) (reported : Counts) → keeps_rules a b seat reported ≡ true → Possible a b seat reported
passed a b seat reported t = search rules

pub returns : goal.returns
returns c = record {
  targets = record { first = refl; second = refl; third = refl; fourth = refl; after_higher = refl; after_lower = refl; of_all_places = refl; of_the_last_two = refl };
  countings = record { below_8 = refl; above_8 = refl; below_9 = refl; above_9 = refl };
  searches = record {
    weighed_search = run_higher (lit≤ tt) refl (run_lower (lit≤ tt) refl (run_lower (lit≤ tt) refl (run_done (lit≤ tt) refl)));
    judged_search = run_higher (lit≤ tt) refl (run_lower (lit≤ tt) refl (run_lower (lit≤ tt) refl (run_done (lit≤ tt) refl)));
    one_place = run_done (lit≤ tt) refl;
  };
  exchanges = record {
    four_rounds =
        higher (counts 1 1 ∷ counts 1 0 ∷ counts 0 2 ∷ [])
        (passed 0 15 (known 2 0 0) (counts 1 1) refl, (passed 0 15 (known 1 0 0) (counts 1 0) refl, (passed 0 15 (known 2 0 0) (counts 0 2) refl, tt))) refl
        (lower (counts 2 0 ∷ counts 1 0 ∷ counts 1 0 ∷ [])
        (passed 9 15 (known 2 1 0) (counts 2 0) refl, (passed 9 15 (known 1 1 0) (counts 1 0) refl, (passed 9 15 (known 2 0 0) (counts 1 0) refl, tt))) refl
        (lower (counts 2 0 ∷ counts 1 0 ∷ counts 1 1 ∷ [])
        (passed 9 11 (known 2 1 0) (counts 2 0) refl, (passed 9 11 (known 1 1 0) (counts 1 0) refl, (passed 9 11 (known 2 0 1) (counts 1 1) refl, tt))) refl
        (done (counts 1 0 ∷ counts 1 0 ∷ counts 0 1 ∷ [])
        (passed 9 9 (known 2 1 0) (counts 1 0) refl, (passed 9 9 (known 1 1 0) (counts 1 0) refl, (passed 9 9 (known 2 0 1) (counts 0 1) refl, tt))) refl)));
  };
  tables = record { taken_in_turns = refl; totals = refl; saturated = refl };
  rules = record { range_by_verdicts = refl; known_by_reports = refl; standing = refl; honest = refl; at_edge = refl; would_be_lower = refl; would_end_at = refl; too_many = refl; at_other_edge = refl; would_be_higher = refl; would_begin_at = refl; too_few_below = refl; too_few_above = refl };
}
