-- The protocol for two, in the terms of the history law.
use Rattle.std.specs.Prelude.{◌≡◌, ℕ, ◌-◌, ◌^◌, Bool, true, false, List, length, reverse}
use Rattle.elements.specs.Orders.{NeverFalls}
use Rattle.elements.specs.declared.entry.Entry.{Entry}
use Rattle.elements.specs.Ranks.{Ranked}
use Rattle.referees.specs.declared.verdict.PairVerdict.{PairVerdict}
use Rattle.pair.specs.PairLaws.{AllDifferent, IsCeilLog2}
use Rattle.pair.specs.Rebuilds.{rebuilt}
use Rattle.pair.specs.PairReports.{Report, Explains, KeepsRules}
use Rattle.pair.specs.Rows.{halvings, row, entry_at}
use Rattle.pair.specs.Sides.{seat_of}
use Rattle.pair.specs.Bisection.{OfSides, offset_after, place_asked, joint_pair, pair_verdicts}
use Rattle.pair.specs.declared.side.Side.{Side}
use Rattle.pair.specs.declared.side.Side.TheVariants.{A, B}
use Rattle.runs.specs.Protocols.{Protocol}

abbrev pub same_side : Side → Side → Bool
same_side A A = true
same_side A B = false
same_side B A = false
same_side B B = true

-- the place that a side is asked for after these verdicts, the newest first: that of the window to which they lead
abbrev pub place_after : (k : ℕ) → Side → List PairVerdict → ℕ
place_after k side verdicts = place_asked (offset_after side 0 (halvings k) (reverse verdicts)) (2 ^ (halvings k - length verdicts))

module _ {T : Type 0} (before : T → T → Bool) (declared : OfSides) (k : ℕ) where
  -- an honest seat's list has the declared length and never falls
  abbrev pub Fit : Side → List T → Type 0
  Fit side xs = (length xs ≡ declared side) × NeverFalls before xs

  -- its honest report is its row's entry at the place asked
  abbrev pub honest : Side → List T → List PairVerdict → Entry T
  honest side xs verdicts = entry_at (row side k xs) (place_after k side verdicts)

  abbrev pub pair_protocol : Protocol Side (Entry T) PairVerdict T (Report T)
  pair_protocol = record {
    same = same_side;
    Seated = λ side. Unit {0};
    name = seat_of;
    report_at = λ side verdicts entry. record { place = place_after k side verdicts; entry = entry };
    KeepsRules = λ side verdicts earlier entry.
        KeepsRules before side k (declared side) earlier (record { place = place_after k side verdicts; entry = entry });
    Explains = λ side reports xs. Explains before side k (declared side) reports xs;
    Fit = Fit;
    honest = honest;
    Lists = Side → List T;
    OneASeat = λ lists. Unit {0};
    list_of = λ lists side. lists side;
    IsResult = λ lists x. Ranked before k (joint_pair lists) x;
    Makes = λ lists verdicts. pair_verdicts before k lists ≡ verdicts;
    Rebuilds = λ side xs x verdicts. rebuilt before side k xs x ≡ verdicts;
    Rebuildable = λ lists. AllDifferent (joint_pair lists);
    asks_at_finish = true;
    VerdictCount = λ count. IsCeilLog2 k count;
  }
