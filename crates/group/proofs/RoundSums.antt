-- What all seats have given in a round, as the counts of one exchange.
use Rattle.std.proofs.Common.{◌≡◌, ℕ, zero, suc, true, List, [], ◌∷◌, map, Some, None, Option, is_some, sum_by, sym, refl, ap, ap₂, ◌∙◌, subst}
use Rattle.std.specs.List.{AllByRecursion as Each}
use Rattle.std.specs.Prelude.{slice_get}
use Rattle.std.proofs.lemmas.Bool.{and_parts, false≢true}
use Rattle.std.proofs.lemmas.Option.{none-some, same_Some}
use Rattle.group.specs.SeatStates.{bounds_next}
use Rattle.group.specs.SeatTotals.{below_of, above_of}
use Rattle.referees.specs.Verdicts.{weight_of}
use Rattle.referees.specs.declared.verdict.GroupVerdict.{GroupVerdict}
use Rattle.group.specs.SeatValues.{SeatValue, seat_after, all_given}
use Rattle.group.proofs.TableSums.{sum_by-map}
use Rattle.group.specs.Exchanges.{AllPossible, verdict_on, all_known_after}
use Rattle.group.specs.SeatRules.{bounds_after, Possible}
use Rattle.group.specs.declared.counts.Counts.{Counts}
use Rattle.group.specs.declared.count_bounds.CountBounds.{CountBounds}
use Rattle.group.proofs.RunStands.{all_known}

-- a seat has given counts, which are possible at the target of a range
pub record Gave (a b : ℕ) (value : SeatValue) : Type 0 where
  pub counts : Counts
  pub given : value.given ≡ Some counts
  pub possible : Possible a b value.known counts

-- the counts that a seat has given, 0 where it has given none
abbrev pub counts_of : SeatValue → Counts
counts_of value = record { below = below_of value.given; above = above_of value.given }

-- of a seat that has given counts, these
pub gave_counts : {a b : ℕ} {value : SeatValue} (gave : Gave a b value) → counts_of value ≡ gave.counts
gave_counts gave = ap {B = Counts} (λ (given : Option Counts). record { below = below_of given; above = above_of given }) gave.given

-- where there is something, it is one thing
some_there : {X : Type 0} (given : Option X) → is_some given ≡ true → (x : X) × (given ≡ Some x)
some_there None some = absurd (false≢true some)
some_there (Some x) some = (x, refl)

-- where all seats have given their counts, each has
given_among : (seats : List SeatValue) (i : ℕ) (value : SeatValue) → all_given seats ≡ true → slice_get seats i ≡ Some value → is_some value.given ≡ true
given_among [] i value all is = absurd (none-some value is)
given_among (seat ∷ seats) zero value all is =
    subst (λ (s : SeatValue). is_some s.given ≡ true) (same_Some seat value is) (and_parts (is_some seat.given) (all_given seats) all).0
given_among (seat ∷ seats) (suc i) value all is = given_among seats i value (and_parts (is_some seat.given) (all_given seats) all).1 is

-- so each has given counts
pub some_given : (seats : List SeatValue) (i : ℕ) (value : SeatValue) → all_given seats ≡ true → slice_get seats i ≡ Some value →
    (counts : Counts) × (value.given ≡ Some counts)
some_given seats i value all is = some_there value.given (given_among seats i value all is)

module _ (a b : ℕ) where
  -- what all seats have given is a possible report of each
  pub all_possible : (seats : List SeatValue) → Each (Gave a b) seats → AllPossible a b (all_known seats) (map counts_of seats)
  all_possible [] all = tt
  all_possible (seat ∷ seats) all =
      (subst (Possible a b seat.known) (sym (gave_counts all.0)) all.0.possible, all_possible seats all.1)

  -- what is known of all seats after a verdict on these is the state of each after it
  pub known_after_all : (verdict : GroupVerdict) (seats : List SeatValue) → Each (Gave a b) seats →
      all_known_after verdict (all_known seats) (map counts_of seats) ≡ all_known (map (seat_after verdict) seats)
  known_after_all verdict [] all = refl
  known_after_all verdict (seat ∷ seats) all =
      ap₂ {C = List CountBounds} (λ (known : CountBounds) (others : List CountBounds). known ∷ others)
      (ap (bounds_after verdict seat.known) (gave_counts all.0) ∙ ap (bounds_next verdict seat.known) (sym all.0.given))
      (known_after_all verdict seats all.1)

-- the verdict on what all seats have given is the one on the sums that the run gathers
pub verdict_gathered : (k n : ℕ) (seats : List SeatValue) →
    verdict_on k n (map counts_of seats) ≡ weight_of (sum_by (λ value. below_of value.given) seats) (sum_by (λ value. above_of value.given) seats) k n
verdict_gathered k n seats =
    ap₂ (λ (below above : ℕ). weight_of below above k n)
    (sum_by-map (λ (counts : Counts). counts.below) counts_of seats) (sum_by-map (λ (counts : Counts). counts.above) counts_of seats)
