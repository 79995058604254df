-- How a report is answered, and what an answered step comes to.
use Rattle.std.proofs.Common.{◌≡◌, ℕ, zero, suc, Bool, true, false, cond, not, [], ◌∷◌, Some, None, Ok, Option, Result, is_some, ◌==◌, refl, arith}
use Rattle.std.specs.List.{sum_by}
use Rattle.std.proofs.lemmas.Bool.{ne_eqb}
use Rattle.faults.specs.declared.fault.RunFault.{RunFault}
use Rattle.faults.specs.declared.seat.Seat.TheVariants.{Numbered}
use Rattle.faults.specs.declared.refusal.Refusal.TheVariants.{NotItsTurn, Impossible}
use Rattle.group.specs.SeatTotals.{below_of, above_of}
use Rattle.referees.specs.Verdicts.{weight_of}
use Rattle.referees.specs.declared.verdict.GroupVerdict.{GroupVerdict}
use Rattle.runs.specs.Answers.{question_answer}
use Rattle.faults.specs.RefusalOrder.{check, first_check, answered}
use Rattle.group.specs.SeatValues.{all_given}
use Rattle.group.specs.declared.counts.Counts.{Counts}
use Rattle.group.specs.GroupCalls.{State, step_asks}

-- how a seat's report is answered, by what the seat has given in this round and whether the report passes the test
abbrev pub answer_by : (number : ℕ) → Option Counts → (passing : Bool) → Result (Unit {0}) RunFault
answer_by number given passing =
    answered (first_check (check (is_some given) NotItsTurn ∷ check (not passing) Impossible ∷ [])) (Some (Numbered number)) tt

-- an accepted report is of a seat that had given none in this round, and passes the test
pub accepted_passes : (number : ℕ) (given : Option Counts) (passing : Bool) → Ok tt ≡ answer_by number given passing →
    (given ≡ None) × (passing ≡ true)
accepted_passes number (Some counts) passing e = absurd cc
accepted_passes number None false e = absurd cc
accepted_passes number None true e = (refl, refl)

-- an answered question was about reports that were there, and the answer is the true one
asked_of_all : {X Y : Type 0} (truth : X → Y) (test : Bool) (x : X) (stock : ℕ) (answer : Y) →
    question_answer truth (cond test (Some x) None) stock ≡ Ok answer → (test ≡ true) × (truth x ≡ answer)
asked_of_all truth false x stock answer e = absurd cc
asked_of_all truth true x zero answer e = absurd cc
asked_of_all {Y = Y} truth true x (suc stock) answer e =
    let some : (suc stock == 0) ≡ false = ne_eqb (suc stock) 0 (λ z. omega arith) in
    let answers : ◌≡◌ {A = Result Y RunFault} (Ok (truth x)) (Ok answer) = rw some at e in
    (refl, cc)

-- all seats have given their counts in this round, and the verdict is the true one on their sums
pub record WeighsAll (now : State) (verdict : GroupVerdict) : Type 0 where
  pub all : all_given now.seats ≡ true
  pub true_verdict :
      weight_of (sum_by (λ value. below_of value.given) now.seats) (sum_by (λ value. above_of value.given) now.seats) now.rank now.total ≡ verdict

-- so it is where a step is accepted
pub step_weighs : (now : State) (stock : ℕ) (verdict : GroupVerdict) → step_asks now stock ≡ Ok verdict → WeighsAll now verdict
step_weighs now stock verdict answers =
    let sums : Counts = record { below = sum_by (λ value. below_of value.given) now.seats; above = sum_by (λ value. above_of value.given) now.seats } in
    let w = asked_of_all (λ (sums : Counts). weight_of sums.below sums.above now.rank now.total) (all_given now.seats) sums stock verdict answers in
    record { all = w.0; true_verdict = w.1 }
