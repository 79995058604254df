-- Worked examples of a pair's exchange: A's list is 12, 40, 55 and B's is 20, 31, 70, unless said.
use Rattle.std.specs.Prelude.{◌≡◌, ℕ, true, false, List, [], ◌∷◌, nat_lt}
use Rattle.pair.specs.Exchanges.{FinishedExchange}
use Rattle.pair.specs.SeatBounds.{bounds_after, passes, widest}
use Rattle.pair.specs.Rebuilds.{rebuilt}
use Rattle.pair.specs.PairReports.{Report, KeepsRules}
use Rattle.pair.specs.Rows.{padded, row, row_length, entry_at, kind_at}
use Rattle.pair.specs.Bisection.{OfSides, place_asked, judged_verdicts, offset_after, pair_verdicts, pair_result}
use Rattle.pair.specs.declared.bounds.Bounds.{Bounds}
use Rattle.pair.specs.declared.side.Side.{Side}
use Rattle.pair.specs.declared.side.Side.TheVariants.{A, B}
use Rattle.elements.specs.Entries.{lesser_entry}
use Rattle.elements.specs.declared.entry.Entry.{Entry}
use Rattle.elements.specs.declared.entry.Entry.TheVariants.{Below, Element, Above}
use Rattle.referees.specs.declared.operand.EntryKind.TheVariants.{Below as BelowKind, Element as ElementKind, Above as AboveKind}
use Rattle.referees.specs.Verdicts.{first_of}
use Rattle.referees.specs.declared.verdict.PairVerdict.{PairVerdict}
use Rattle.referees.specs.declared.verdict.PairVerdict.TheVariants.{Before, NotBefore}

abbrev list_of : Side → List ℕ
list_of A = 12 ∷ 40 ∷ 55 ∷ []
list_of B = 20 ∷ 31 ∷ 70 ∷ []

-- A has nothing
abbrev only_b : Side → List ℕ
only_b A = []
only_b B = list_of B

-- both have the same one element
abbrev tied : Side → List ℕ
tied side = 31 ∷ []

pub record Rows : Type 0 where
  pub length_1 : row_length 1 ≡ 1
  pub length_4 : row_length 4 ≡ 4
  pub length_5 : row_length 5 ≡ 8
  pub length_most : row_length 131072 ≡ 131072
  pub a_for_3 : row A 3 (list_of A) ≡ Below ∷ Element 12 ∷ Element 40 ∷ Element 55 ∷ []
  pub b_for_3 : row B 3 (list_of B) ≡ Element 20 ∷ Element 31 ∷ Element 70 ∷ Above ∷ []
  pub a_for_2 : row A 2 (list_of A) ≡ Element 12 ∷ Element 40 ∷ []
  pub a_for_5 : row A 5 (list_of A) ≡ Below ∷ Below ∷ Below ∷ Element 12 ∷ Element 40 ∷ Element 55 ∷ Above ∷ Above ∷ []
  pub kind_below : kind_at A 3 3 1 ≡ BelowKind
  pub kind_element : kind_at A 3 3 4 ≡ ElementKind
  pub kind_above : kind_at B 3 3 4 ≡ AboveKind

pub record Bisections : Type 0 where
  pub rank_1 : pair_verdicts nat_lt 1 list_of ≡ []
  pub result_1 : pair_result nat_lt 1 list_of ≡ Element 12
  pub rank_3 : pair_verdicts nat_lt 3 list_of ≡ Before ∷ NotBefore ∷ []
  pub result_3 : pair_result nat_lt 3 list_of ≡ Element 31
  pub rank_4 : pair_verdicts nat_lt 4 list_of ≡ NotBefore ∷ Before ∷ []
  pub result_4 : pair_result nat_lt 4 list_of ≡ Element 40
  pub rank_6 : pair_verdicts nat_lt 6 list_of ≡ Before ∷ NotBefore ∷ Before ∷ []
  pub result_6 : pair_result nat_lt 6 list_of ≡ Element 70
  pub a_empty : pair_verdicts nat_lt 2 only_b ≡ NotBefore ∷ []
  pub result_a_empty : pair_result nat_lt 2 only_b ≡ Element 31

-- rows for rank 3 without belows
abbrev above_alone : Side → List (Entry ℕ)
above_alone side = padded 4 0 3 (list_of side)

abbrev compared_alone : OfSides → PairVerdict
compared_alone places = first_of nat_lt (entry_at (above_alone A) (places A)) (entry_at (above_alone B) (places B))

-- they lead to the fourth element in place of the third
pub record WithoutBelows : Type 0 where
  pub given : judged_verdicts compared_alone (λ side. 0) 2 ≡ NotBefore ∷ Before ∷ []
  pub offset_a : offset_after A 0 2 (NotBefore ∷ Before ∷ []) ≡ 1
  pub offset_b : offset_after B 0 2 (NotBefore ∷ Before ∷ []) ≡ 2
  pub result : lesser_entry nat_lt (entry_at (above_alone A) 2) (entry_at (above_alone B) 3) ≡ Element 40

-- from its own list and the result; with equal elements B writes another verdict than was given
pub record Rebuilt : Type 0 where
  pub by_a : rebuilt nat_lt A 3 (list_of A) 31 ≡ Before ∷ NotBefore ∷ []
  pub by_b : rebuilt nat_lt B 3 (list_of B) 31 ≡ Before ∷ NotBefore ∷ []
  pub tie : pair_verdicts nat_lt 2 tied ≡ NotBefore ∷ []
  pub tie_by_a : rebuilt nat_lt A 2 (tied A) 31 ≡ NotBefore ∷ []
  pub tie_by_b : rebuilt nat_lt B 2 (tied B) 31 ≡ Before ∷ []

-- the bounds once 40 was reported at A's place 2 and the verdict was 0
abbrev up_to_40 : Bounds ℕ
up_to_40 = record { low = Below; high = Element 40 }

-- the bounds once 12 was reported at place 1 besides, and the verdict was 1
abbrev from_12_to_40 : Bounds ℕ
from_12_to_40 = record { low = Element 12; high = Element 40 }

-- with rank 4, what A can report: at place 2 first, at place 1 after 40 there, and at place 2 again
pub record Tests : Type 0 where
  pub first_place : place_asked 0 4 ≡ 2
  pub second_place : place_asked 0 2 ≡ 1
  pub last_place : place_asked 1 1 ≡ 2
  pub first : passes nat_lt A 4 3 0 4 widest (Element 40) ≡ true
  pub no_mark : passes nat_lt A 4 3 0 4 widest Above ≡ false
  pub falls : passes nat_lt A 4 3 0 2 up_to_40 (Element 55) ≡ false
  pub same : passes nat_lt A 4 3 0 2 up_to_40 (Element 40) ≡ true
  pub again : passes nat_lt A 4 3 1 1 from_12_to_40 (Element 40) ≡ true
  pub less_now : passes nat_lt A 4 3 1 1 from_12_to_40 (Element 39) ≡ false

-- what a verdict makes of the bounds
pub record Bounding : Type 0 where
  pub below_40 : bounds_after A NotBefore (Element 40) widest ≡ up_to_40
  pub above_12 : bounds_after A Before (Element 12) up_to_40 ≡ from_12_to_40
  pub of_b : bounds_after {E = ℕ} B NotBefore (Element 31) widest ≡ record { low = Element 31; high = Above }

abbrev at : ℕ → Entry ℕ → Report ℕ
at place entry = record { place = place; entry = entry }

-- what A reported before its last report for rank 4
abbrev a_reported : List (Report ℕ)
a_reported = at 1 (Element 12) ∷ at 2 (Element 40) ∷ []

-- the finished exchange for rank 4, and what A could not have said at its end
pub record PairExchanges : Type 0 where
  pub rank_4 : (reports : Side → List (Report ℕ)) × (reports A ≡ at 2 (Element 40) ∷ a_reported)
      × (reports B ≡ at 3 (Element 70) ∷ at 3 (Element 70) ∷ at 2 (Element 31) ∷ [])
      × FinishedExchange nat_lt 4 (λ side. 3) reports (Before ∷ NotBefore ∷ []) (Element 40)
  pub not_another : KeepsRules nat_lt A 4 3 a_reported (at 2 (Element 30)) → ⊥
  pub not_less : KeepsRules nat_lt A 4 3 (at 2 (Element 40) ∷ []) (at 1 (Element 55)) → ⊥
