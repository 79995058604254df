-- What a group comes to whose seats report honestly, each of its list, until the element of a rank is found.
use Rattle.std.specs.Prelude.{◌≡◌, ℕ, zero, suc, ◌+◌, ◌-◌, ◌/◌, ◌^◌, ◌≤◌, Bool, List, [], ◌∷◌, length, map, take, drop, Some, None, Ok, Err, Option, Result}
use Rattle.rankunit.specs.Elements.Delays.{delay_before}
use Rattle.rankunit.specs.Elements.Limits.{saturated}
use Rattle.rankunit.specs.Elements.Ranks.{joint, Ranked}
use Rattle.rankunit.specs.Elements.declared.delay.Delay.{Delay}
use Rattle.rankunit.specs.Faults.FaultInfos.{run_info}
use Rattle.rankunit.specs.Faults.declared.fault.RunFault.{RunFault}
use Rattle.rankunit.specs.Faults.declared.fault.RunFault.TheVariants.{OfSeat, Own}
use Rattle.rankunit.specs.Faults.declared.fault.SeatFault.TheVariants.{Own as OwnSeat}
use Rattle.rankunit.specs.Faults.declared.refusal.Refusal.{Refusal}
use Rattle.rankunit.specs.Faults.declared.seat.Seat.TheVariants.{Numbered}
use Rattle.rankunit.specs.Group.GroupCalls.{opening_refusal}
use Rattle.rankunit.specs.Group.SeatCounts.{weighed}
use Rattle.rankunit.specs.Group.Searches.{Search}
use Rattle.rankunit.specs.Referees.declared.verdict.GroupVerdict.{GroupVerdict}
use Rattle.rankunit.specs.Runs.Finishes.{Outcome as Found}
use Rattle.rankunit.specs.Seats.ListRefusals.{IsGroupRefusal}
use Rattle.rankunit_c.specs.Outcomes.{found, refused}
use Rattle.rankunit_c.specs.declared.outcome.Outcome.{Outcome}

-- so many parts of a list, one after another, with so many elements each
abbrev pub parts : {X : Type 0} → (number each : ℕ) → List X → List (List X)
parts zero each xs = []
parts (suc n) each xs = take each xs ∷ parts n each (drop each xs)

-- the lengths of lists as they are declared, in 32 bits; a length that does not fit is too long in any case
abbrev pub declared_lengths : {X : Type 0} → List (List X) → List ℕ
declared_lengths lists = map (λ xs. saturated (length xs)) lists

module _ {T : Type 0} (before : T → T → Bool) (place : T → ℕ) (lo hi : ℕ) where
  -- the first list that is refused decides, for the seat of its number; where none is, there is no fault
  abbrev pub Decides : (of_list : Option Refusal) → (number : ℕ) → (Later : Option RunFault → Type 0) → Option RunFault → Type 0
  Decides None number Later fault = Later fault
  Decides (Some refusal) number Later fault = fault ≡ Some (OfSeat (OwnSeat refusal (Some (Numbered number))))

  -- of lists whose seats are numbered from a number on
  abbrev pub FirstRefused : (number : ℕ) → List (List T) → Option RunFault → Type 0
  FirstRefused number [] fault = fault ≡ None
  FirstRefused number (xs ∷ later) fault =
      (of_list : Option Refusal) × IsGroupRefusal before place lo hi xs of_list × Decides of_list number (FirstRefused (number + 1) later) fault

  module _ (lists : List (List T)) (rank : ℕ) where
    -- the result is the element of the rank of all lists, and the verdicts that the count counts are those that weighing the lists makes
    pub record Finds (finished : Found T) : Type 0 where
      pub result : Ranked before rank (joint lists) finished.result
      pub verdicts : List GroupVerdict
      pub made : (m : ℕ) × Search (weighed place rank lists) lo hi verdicts m
      pub count : finished.count ≡ length verdicts

    -- what there is to refuse decides in this order: the opening, then the lists from the first seat's on; else the element is found
    abbrev pub FoundUnless : (of_lists : Option RunFault) → Result (Found T) RunFault → Type 0
    FoundUnless (Some fault) result = result ≡ Err fault
    FoundUnless None result = (finished : Found T) × (result ≡ Ok finished) × Finds finished

    abbrev pub ComesTo : (opening : Option Refusal) → Result (Found T) RunFault → Type 0
    ComesTo (Some refusal) result = result ≡ Err (Own refusal None)
    ComesTo None result = (of_lists : Option RunFault) × FirstRefused 1 lists of_lists × FoundUnless of_lists result

    -- a run for the rank over places from the lowest to the highest
    abbrev pub IsGroupRun : (lowest highest : ℕ) → Result (Found T) RunFault → Type 0
    IsGroupRun lowest highest result = ComesTo (opening_refusal lowest highest (declared_lengths lists) lo hi rank) result

-- the places of delays, and their ends
abbrev pub delay_place : Delay → ℕ
delay_place x = x.micros

abbrev pub lowest : ℕ
lowest = 0

abbrev pub highest : ℕ
highest = 2 ^ 32 - 1

-- what a run's answer comes to; its verdicts are not told
abbrev pub outcome_of_run : Result (Found Delay) RunFault → Outcome
outcome_of_run (Ok finished) = found finished 0
outcome_of_run (Err fault) = refused (run_info fault)

-- no run over all places of delays makes more verdicts
abbrev pub most_rounds : ℕ
most_rounds = 33

-- So many seats each have one of so many equal parts of the delays, and a group over all places finds the element of the rank.
pub record IsMeasured (delays : List Delay) (seats rank : ℕ) (outcome : Outcome) : Type 0 where
  pub came : Result (Found Delay) RunFault
  pub plays : IsGroupRun delay_before delay_place lowest highest (parts seats (length delays / seats) delays) rank lowest highest came
  pub numbers : outcome ≡ outcome_of_run came
  pub few : outcome.count ≤ most_rounds
