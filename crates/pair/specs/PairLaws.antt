-- What holds of a pair's exchange, in every order.
use Rattle.std.specs.Prelude.{◌≡◌, ℕ, ◌+◌, ◌^◌, ◌<◌, ◌≤◌, Bool, true, List, [], ◌∷◌, length, reverse, ◌≢◌, slice_index_or}
use Rattle.std.specs.List.{AllByRecursion as Each}
use Rattle.elements.specs.Orders.{NeverFalls}
use Rattle.elements.specs.declared.entry.Entry.{Entry}
use Rattle.elements.specs.declared.entry.Entry.TheVariants.{Element}
use Rattle.elements.specs.Ranks.{Ranked}
use Rattle.referees.specs.declared.verdict.PairVerdict.{PairVerdict}
use Rattle.pair.specs.Exchanges.{FinishedExchange}
use Rattle.pair.specs.SeatBounds.{Bound, bounds_after, passes, widest}
use Rattle.pair.specs.Rebuilds.{rebuilt}
use Rattle.pair.specs.PairReports.{Report, Explains, Consistent, KeepsRules}
use Rattle.pair.specs.Rows.{halvings, row, row_length, entry_at}
use Rattle.pair.specs.Bisection.{OfSides, place_asked, moved, pair_verdicts, pair_result, joint_pair}
use Rattle.pair.specs.declared.bounds.Bounds.{Bounds}
use Rattle.pair.specs.declared.side.Side.{Side}
use Rattle.pair.specs.declared.side.Side.TheVariants.{A, B}

-- no element stands twice
abbrev pub AllDifferent : {E : Type 0} → List E → Type 0
AllDifferent {E} xs = (i j : ℕ) (d : E) → i < j → j < length xs → slice_index_or xs i d ≢ slice_index_or xs j d

-- c is the logarithm of k to the base 2, rounded up
pub record IsCeilLog2 (k c : ℕ) : Type 0 where
  pub enough : k ≤ 2 ^ c
  pub least : (j : ℕ) → k ≤ 2 ^ j → c ≤ j

-- a rank among the elements of two lists that never fall
pub record HasRank {E : Type 0} (before : E → E → Bool) (k : ℕ) (lists : Side → List E) : Type 0 where
  pub in_order : (side : Side) → NeverFalls before (lists side)
  pub from_1 : 1 ≤ k
  pub up_to_all : k ≤ length (lists A) + length (lists B)

-- an entry is the element of rank k of two lists, and so no mark
abbrev pub IsOfRank : {E : Type 0} → (E → E → Bool) → ℕ → (Side → List E) → Entry E → Type 0
IsOfRank {E} before k lists e = (x : E) × (e ≡ Element x) × Ranked before k (joint_pair lists) x

-- the bisection ends with the element of rank k, and never with a mark
abbrev pub BisectionFindsRank : {E : Type 0} → (E → E → Bool) → Type 0
BisectionFindsRank {E} before =
    (k : ℕ) (lists : Side → List E) → HasRank before k lists → IsOfRank before k lists (pair_result before k lists)

-- there are as many verdicts as k has halvings, the logarithm of k rounded up, whatever the lists are
pub record VerdictsAreLogOfRank {E : Type 0} (before : E → E → Bool) : Type 0 where
  pub logarithm : (k : ℕ) → IsCeilLog2 k (halvings k)
  pub as_many : (k : ℕ) (lists : Side → List E) → length (pair_verdicts before k lists) ≡ halvings k

-- where no two joint elements are equal, each seat alone rebuilds the verdicts from its list and the element of rank k
abbrev pub SeatsRebuild : {E : Type 0} → (E → E → Bool) → Type 0
SeatsRebuild {E} before =
    (k : ℕ) (lists : Side → List E) → ((side : Side) → NeverFalls before (lists side)) → AllDifferent (joint_pair lists) →
    (x : E) → Ranked before k (joint_pair lists) x → (side : Side) → rebuilt before side k (lists side) x ≡ pair_verdicts before k lists

-- reports at places from 1 on are explained by some list exactly if they are consistent
pub record ExplainedIfConsistent {E : Type 0} (before : E → E → Bool) : Type 0 where
  pub explained : (side : Side) (k d : ℕ) (reports : List (Report E)) → Consistent before side k d reports →
      (xs : List E) × Explains before side k d reports xs
  pub consistent : (side : Side) (k d : ℕ) (reports : List (Report E)) → Each (λ r. 1 ≤ r.place) reports →
      (xs : List E) → Explains before side k d reports xs → Consistent before side k d reports

-- after consistent reports, the three rules for a new one, which look at the nearest places only, pass it exactly if it is
-- consistent with all of them
pub record NearestPlacesDecide {E : Type 0} (before : E → E → Bool) : Type 0 where
  pub consistent : (side : Side) (k d : ℕ) (reports : List (Report E)) (r : Report E) → Consistent before side k d reports →
      1 ≤ r.place → KeepsRules before side k d reports r → Consistent before side k d (r ∷ reports)
  pub keeps_rules : (side : Side) (k d : ℕ) (reports : List (Report E)) (r : Report E) →
      Consistent before side k d (r ∷ reports) → KeepsRules before side k d reports r

-- an honest seat is never refused: after reports that its list explains, its row's entry at any place keeps the rules
abbrev pub HonestIsAccepted : {E : Type 0} → (E → E → Bool) → Type 0
HonestIsAccepted {E} before =
    (side : Side) (k d : ℕ) (reports : List (Report E)) → Each (λ r. 1 ≤ r.place) reports →
    (xs : List E) → Explains before side k d reports xs → (place : ℕ) → 1 ≤ place →
    KeepsRules before side k d reports (record { place = place; entry = entry_at (row side k xs) place })

-- a window, of size 2 ^ j in a row for rank k, with the bounds that consistent reports leave it
pub record Bounded {E : Type 0} (before : E → E → Bool) (side : Side) (k d offset j : ℕ)
    (bounds : Bounds E) (reports : List (Report E)) : Type 0 where
  pub consistent : Consistent before side k d reports
  pub room : offset + 2 ^ j ≤ row_length k
  pub bound : Bound (row_length k) offset (2 ^ j) bounds reports

-- The two bounds of a window decide the three rules at the place asked. The widest bounds are those of no reports, and
-- after a report that passes, the verdict on it leaves bounds of the new window.
pub record BoundsDecide {E : Type 0} (before : E → E → Bool) : Type 0 where
  pub opened : (side : Side) (k d : ℕ) → Bounded before side k d 0 (halvings k) widest []
  pub passed : (side : Side) (k d offset j : ℕ) (bounds : Bounds E) (reports : List (Report E)) (e : Entry E) →
      Bounded before side k d offset j bounds reports → passes before side k d offset (2 ^ j) bounds e ≡ true →
      KeepsRules before side k d reports (record { place = place_asked offset (2 ^ j); entry = e })
  pub passing : (side : Side) (k d offset j : ℕ) (bounds : Bounds E) (reports : List (Report E)) (e : Entry E) →
      Bounded before side k d offset j bounds reports →
      KeepsRules before side k d reports (record { place = place_asked offset (2 ^ j); entry = e }) →
      passes before side k d offset (2 ^ j) bounds e ≡ true
  pub halved : (side : Side) (k d offset j : ℕ) (bounds : Bounds E) (reports : List (Report E)) (e : Entry E) (verdict : PairVerdict) →
      Bounded before side k d offset (j + 1) bounds reports → passes before side k d offset (2 ^ (j + 1)) bounds e ≡ true →
      Bounded before side k d (moved side verdict (2 ^ j) offset) j (bounds_after side verdict e bounds)
      (record { place = offset + 2 ^ j; entry = e } ∷ reports)

-- two lists that explain what both sides reported
abbrev pub ExplainBoth : {E : Type 0} → (E → E → Bool) → ℕ → OfSides → (Side → List (Report E)) → (Side → List E) → Type 0
ExplainBoth before k declared reports lists = (side : Side) → Explains before side k (declared side) (reports side) (lists side)

-- Whoever lies: a finished exchange is the bisection over every two lists that explain it, its result the element of rank
-- k of them, and there are such lists.
pub record FinishedIsBisection {E : Type 0} (before : E → E → Bool) (k : ℕ) (declared : OfSides)
    (reports : Side → List (Report E)) (verdicts : List PairVerdict) (result : Entry E) : Type 0 where
  pub some_lists : (lists : Side → List E) × ExplainBoth before k declared reports lists
  pub verdicts_are : (lists : Side → List E) → ExplainBoth before k declared reports lists → reverse verdicts ≡ pair_verdicts before k lists
  pub result_is : (lists : Side → List E) → ExplainBoth before k declared reports lists → IsOfRank before k lists result

abbrev pub EveryFinishedIsBisection : {E : Type 0} → (E → E → Bool) → Type 0
EveryFinishedIsBisection {E} before =
    (k : ℕ) (declared : OfSides) → 1 ≤ k → k ≤ declared A + declared B →
    (reports : Side → List (Report E)) (verdicts : List PairVerdict) (result : Entry E) → FinishedExchange before k declared reports verdicts result →
    FinishedIsBisection before k declared reports verdicts result
