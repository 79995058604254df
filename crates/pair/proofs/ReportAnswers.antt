-- How a question about both reports of a round is answered, and how a report is.
use Rattle.std.proofs.Common.{◌≡◌, ℕ, zero, suc, Bool, false, not, [], ◌∷◌, Some, None, Ok, Option, Result, is_some, ◌==◌, refl, arith}
use Rattle.std.proofs.lemmas.Bool.{ne_eqb}
use Rattle.elements.specs.declared.entry.Entry.{Entry}
use Rattle.faults.specs.declared.fault.RunFault.{RunFault}
use Rattle.faults.specs.declared.refusal.Refusal.TheVariants.{NotItsTurn, Impossible}
use Rattle.pair.specs.Sides.{seat_of}
use Rattle.pair.specs.declared.side.Side.{Side}
use Rattle.pair.specs.declared.side.Side.TheVariants.{A, B}
use Rattle.pair.proofs.BisectionSteps.{both_sides}
use Rattle.runs.specs.Answers.{question_answer}
use Rattle.faults.specs.RefusalOrder.{check, first_check, answered}
use Rattle.pair.specs.PairCalls.{both_given, both_reports}
use Rattle.pair.specs.SeatStates.{state_of_side}
use Rattle.pair.specs.declared.progress.Progress.{Progress}

module _ {T : Type 0} where
  -- an entry for each side
  abbrev pub of_both : Entry T → Entry T → Side → Entry T
  of_both a b A = a
  of_both a b B = b

  -- each side has given an entry in this round, and the answer is the true one about both
  pub record GaveBoth {Y : Type 0} (truth : Entry T × Entry T → Y) (progress : Progress T) (answer : Y) : Type 0 where
    pub entries : Side → Entry T
    pub given : (side : Side) → (state_of_side side progress).given ≡ Some (entries side)
    pub true_answer : truth (entries A, entries B) ≡ answer

  -- an answered question was about two entries, and the answer is the true one
  asked_of_two : {Y : Type 0} (truth : Entry T × Entry T → Y) (a b : Option (Entry T)) (stock : ℕ) (answer : Y) →
      question_answer truth (both_given a b) stock ≡ Ok answer →
      (x : Entry T) × (y : Entry T) × (a ≡ Some x) × (b ≡ Some y) × (truth (x, y) ≡ answer)
  asked_of_two truth None b stock answer e = absurd cc
  asked_of_two truth (Some x) None stock answer e = absurd cc
  asked_of_two truth (Some x) (Some y) zero answer e = absurd cc
  asked_of_two {Y} truth (Some x) (Some y) (suc stock) answer e =
      let some : (suc stock == 0) ≡ false = ne_eqb (suc stock) 0 (λ z. omega arith) in
      let same : ◌≡◌ {A = Result Y RunFault} (Ok (truth (x, y))) (Ok answer) = rw some at e in
      (x, y, refl, refl, cc)

  -- so a run's question that was answered was about an entry of each side
  pub asked_of_both : {Y : Type 0} (truth : Entry T × Entry T → Y) (progress : Progress T) (stock : ℕ) (answer : Y) →
      question_answer truth (both_reports progress) stock ≡ Ok answer → GaveBoth truth progress answer
  asked_of_both truth progress stock answer e =
      let w = asked_of_two truth progress.a.given progress.b.given stock answer e in
      let entries = of_both w.0 w.1 in
      record {
        entries = entries;
        given = both_sides (λ side. (state_of_side side progress).given ≡ Some (entries side)) A w.2 w.3;
        true_answer = w.4;
      }

  -- how a report is answered, by what its seat has given in this round and whether it passes the test
  abbrev pub answer_by : Side → Option (Entry T) → (passing : Bool) → Result (Unit {0}) RunFault
  answer_by side given passing =
      answered (first_check (check (is_some given) NotItsTurn ∷ check (not passing) Impossible ∷ [])) (Some (seat_of side)) tt
