-- The protocol for groups, in the terms of the history law.
use Rattle.std.specs.Prelude.{◌≡◌, ℕ, ◌+◌, ◌-◌, ◌≤◌, Bool, false, List, [], ◌∷◌, map, length, ◌==◌, slice_index_or}
use Rattle.elements.specs.Orders.{NeverFalls}
use Rattle.faults.specs.declared.seat.Seat.TheVariants.{Numbered}
use Rattle.elements.specs.Ranks.{joint, Ranked}
use Rattle.referees.specs.declared.verdict.GroupVerdict.{GroupVerdict}
use Rattle.runs.specs.Protocols.{Protocol}
use Rattle.group.specs.SeatCounts.{below, above, Within, weighed, verdict_knowing}
use Rattle.group.specs.GroupLaws.{AtMostLogPlusOne}
use Rattle.group.specs.Ranges.{target, from_after, to_after}
use Rattle.group.specs.Searches.{Search}
use Rattle.group.specs.SeatRules.{first_bounds, bounds_after, Possible, Report, Explains}
use Rattle.group.specs.declared.counts.Counts.{Counts}
use Rattle.group.specs.declared.count_bounds.CountBounds.{CountBounds}

-- the range, from a to b, to which verdicts, the newest first, lead from lo to hi
pub record Left : Type 0 where
  pub a : ℕ
  pub b : ℕ

abbrev pub left_after : (lo hi : ℕ) → List GroupVerdict → Left
left_after lo hi [] = record { a = lo; b = hi }
left_after lo hi (verdict ∷ past) =
    let left = left_after lo hi past in record { a = from_after verdict left.a left.b; b = to_after verdict left.a left.b }

-- the target that every seat is asked for after these verdicts, the newest first
abbrev pub target_after : (lo hi : ℕ) → List GroupVerdict → ℕ
target_after lo hi verdicts = let left = left_after lo hi verdicts in target left.a left.b

-- What is known of a seat that declared d, L as `low` and G as `high`, after these verdicts, by its reports, one for each verdict,
-- both the newest first. At first L = G = 0; lower sets G = d − l, and higher sets L = d − g.
abbrev pub known_after : (declared : ℕ) → List GroupVerdict → List Report → CountBounds
known_after declared [] reports = first_bounds declared
known_after declared (verdict ∷ older) [] = first_bounds declared
known_after declared (verdict ∷ older) (report ∷ earlier) = bounds_after verdict (known_after declared older earlier) report.counts

module _ {T : Type 0} (before : T → T → Bool) (place : T → ℕ) (declared : List ℕ) (lo hi k : ℕ) where
  -- seats are numbered from 1
  abbrev pub Seated : ℕ → Type 0
  Seated number = (1 ≤ number) × (number ≤ length declared)

  abbrev pub declared_of : ℕ → ℕ
  declared_of number = slice_index_or declared (number - 1) 0

  -- an honest seat's list has the declared length, never falls, and has its elements from lo to hi
  pub record Fit (number : ℕ) (xs : List T) : Type 0 where
    pub of_length : length xs ≡ declared_of number
    pub in_order : NeverFalls before xs
    pub within : Within place lo hi xs

  -- its honest report is how many of its places are below the target asked, and how many above
  abbrev pub honest : ℕ → List T → List GroupVerdict → Counts
  honest number xs verdicts = record { below = below (target_after lo hi verdicts) (map place xs); above = above (target_after lo hi verdicts) (map place xs) }

  abbrev pub group_protocol : Protocol ℕ Counts GroupVerdict T Report
  group_protocol = record {
    same = λ number other. number == other;
    Seated = Seated;
    name = λ number. Numbered number;
    report_at = λ number verdicts counts. record { target = target_after lo hi verdicts; counts = counts };
    -- the five rules at the target of the range that is left, by what is known of the seat
    KeepsRules = λ number verdicts earlier counts.
        let left = left_after lo hi verdicts in Possible left.a left.b (known_after (declared_of number) verdicts earlier) counts;
    Explains = λ number reports xs. Explains place lo hi (declared_of number) reports xs;
    Fit = Fit;
    honest = honest;
    Lists = List (List T);
    OneASeat = λ lists. length lists ≡ length declared;
    list_of = λ lists number. slice_index_or lists (number - 1) [];
    IsResult = λ lists x. Ranked before k (joint lists) x;
    Makes = λ lists verdicts. (m : ℕ) × Search (weighed place k lists) lo hi verdicts m;
    Rebuilds = λ number xs x verdicts. (m : ℕ) × Search (verdict_knowing (place x)) lo hi verdicts m;
    Rebuildable = λ lists. Unit {0};
    asks_at_finish = false;
    VerdictCount = λ count. AtMostLogPlusOne (hi - lo + 1) count;
  }
