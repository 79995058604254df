-- What honest seats of a pair come to.
use Rattle.std.specs.Prelude.{◌≡◌, ℕ, zero, suc, ◌+◌, ◌-◌, ◌≤◌, Bool, List, [], ◌∷◌, length, take, Some, None, Ok, Err, Option, Result}
use Rattle.elements.specs.Limits.{saturated}
use Rattle.faults.specs.declared.fault.RunFault.{RunFault}
use Rattle.faults.specs.declared.fault.RunFault.TheVariants.{OfSeat, Own}
use Rattle.faults.specs.declared.fault.SeatFault.TheVariants.{Own as OwnSeat}
use Rattle.faults.specs.declared.seat.Seat.TheVariants as Seats
use Rattle.faults.specs.declared.refusal.Refusal.{Refusal}
use Rattle.elements.specs.Ranks.{Ranked}
use Rattle.referees.specs.Questions.{out_of_stock}
use Rattle.referees.specs.declared.verdict.PairVerdict.{PairVerdict}
use Rattle.pair.specs.PairLaws.{AllDifferent, IsCeilLog2}
use Rattle.pair.specs.Rebuilds.{rebuilt}
use Rattle.pair.specs.Rows.{halvings}
use Rattle.pair.specs.Bisection.{OfSides, joint_pair, pair_verdicts}
use Rattle.pair.specs.declared.side.Side.{Side}
use Rattle.pair.specs.declared.side.Side.TheVariants.{A, B}
use Rattle.pair.specs.PairCalls.{opening_refusal}
use Rattle.runs.specs.Finishes.{Outcome}
use Rattle.seats.specs.ListRefusals.{IsListRefusal}

-- the lengths as they are declared, in 32 bits; a length that does not fit is too long in any case
abbrev pub declared_lengths : {T : Type 0} → (Side → List T) → OfSides
declared_lengths lists side = saturated (length (lists side))

module _ {T : Type 0} (before : T → T → Bool) (lists : Side → List T) (rank : ℕ) where
  -- The result is the element of the rank of both lists, found by all of the protocol's verdicts, as many as the logarithm of the
  -- rank, rounded up; where all elements are different each seat rebuilds them from its list and the result.
  pub record Finds (finished : Outcome T) : Type 0 where
    pub result : Ranked before rank (joint_pair lists) finished.result
    pub count : IsCeilLog2 rank finished.count
    pub all_made : finished.count ≡ length (pair_verdicts before rank lists)
    pub verdicts : AllDifferent (joint_pair lists) → (side : Side) →
        rebuilt before side rank (lists side) finished.result ≡ pair_verdicts before rank lists

  -- With a stock that lasts for every verdict and for the result the element is found, at the cost of a question for each. With
  -- a smaller one the referee refuses once nothing is left.
  abbrev pub FindsBy : (stock left : ℕ) → Result (Outcome T) RunFault → Type 0
  FindsBy stock left (Ok finished) = (stock ≡ left + finished.count + 1) × Finds finished
  FindsBy stock left (Err fault) = (fault ≡ out_of_stock) × (stock ≤ halvings rank) × (left ≡ 0)

  -- what there is to refuse decides in this order: the opening, A's list, B's list, the stock
  abbrev pub IsRunOutcome : (opening of_a of_b : Option Refusal) → (stock left : ℕ) → Result (Outcome T) RunFault → Type 0
  IsRunOutcome (Some refusal) of_a of_b stock left result = (result ≡ Err (Own refusal None)) × (left ≡ stock)
  IsRunOutcome None (Some refusal) of_b stock left result = (result ≡ Err (OfSeat (OwnSeat refusal (Some Seats.A)))) × (left ≡ stock)
  IsRunOutcome None None (Some refusal) stock left result = (result ≡ Err (OfSeat (OwnSeat refusal (Some Seats.B)))) × (left ≡ stock)
  IsRunOutcome None None None stock left result = FindsBy stock left result

  abbrev pub IsHonestRun : (stock left : ℕ) → Result (Outcome T) RunFault → Type 0
  IsHonestRun stock left result =
      (of_a : Option Refusal) × IsListRefusal before (lists A) of_a × ((of_b : Option Refusal) × IsListRefusal before (lists B) of_b
      × IsRunOutcome (opening_refusal (declared_lengths lists) rank) of_a of_b stock left result)

-- how many verdicts were made: as many as a found result counts, and else as many as the stock has fallen by
abbrev pub verdicts_made : {T : Type 0} → (stock left : ℕ) → Result (Outcome T) RunFault → ℕ
verdicts_made stock left (Ok finished) = finished.count
verdicts_made stock left (Err fault) = stock - left

-- a log after verdicts are noted from its start: they stand there as far as it has room, and the rest of it is as it was
abbrev pub noted : (verdicts log : List PairVerdict) → List PairVerdict
noted [] log = log
noted (verdict ∷ later) [] = []
noted (verdict ∷ later) (place ∷ rest) = verdict ∷ noted later rest

-- The verdicts made are noted, and nothing else. They are the first of the protocol's over both lists.
abbrev pub NotesVerdicts : {T : Type 0} → (T → T → Bool) → (lists : Side → List T) → (rank stock left : ℕ) → (old new : List PairVerdict) →
    Result (Outcome T) RunFault → Type 0
NotesVerdicts before lists rank stock left old new result =
    new ≡ noted (take (verdicts_made stock left result) (pair_verdicts before rank lists)) old
