-- A question about the reports of a round is answered as the law says: 15 exactly where one is missing, then 16 exactly where the
-- stock is 0.
use Rattle.std.proofs.Common.{◌≡◌, ℕ, zero, suc, Bool, true, false, Some, None, Ok, Err, Option, Result, ◌==◌, refl, subst, arith}
use Rattle.std.proofs.lemmas.Bool.{ne_eqb}
use Rattle.elements.specs.declared.entry.Entry.{Entry}
use Rattle.faults.specs.declared.fault.RunFault.{RunFault}
use Rattle.pair.specs.Bisection.{OfSides}
use Rattle.pair.specs.declared.side.Side.{Side}
use Rattle.pair.specs.declared.side.Side.TheVariants.{A, B}
use Rattle.pair.specs.PairCalls.{both_given, both_reports}
use Rattle.pair.specs.SeatStates.{state_of_side}
use Rattle.pair.specs.Histories.{PairTrace}
use Rattle.pair.specs.declared.progress.Progress.{Progress}
use Rattle.pair.specs.PairProtocol.{same_side, pair_protocol}
use Rattle.pair.proofs.BisectionSteps.{both_sides}
use Rattle.pair.proofs.RunStands.{After, given_is}
use Rattle.runs.specs.Answers.{question_answer}
use Rattle.runs.specs.HistoryLaw.{Asked, missing, empty, answered, SomeMissing, AllReported}
use Rattle.runs.specs.Traces.{has_reported}

-- what a call tells that asked a referee: what it makes of the answer, or the same refusal
abbrev pub told : {X Y : Type 0} → (Y → X) → Result Y RunFault → Result X RunFault
told makes_of (Ok answer) = Ok (makes_of answer)
told makes_of (Err fault) = Err fault

module _ {T : Type 0} {before : T → T → Bool} {declared : OfSides} {k : ℕ} (trace : PairTrace T) {j : ℕ} {progress : Progress T}
    (after : After before declared k j progress trace) where
  -- a side that has given nothing in this round has not reported
  missing_of : (side : Side) → (state_of_side side progress).given ≡ None → SomeMissing (pair_protocol before declared k) trace
  missing_of side none = (side, tt, (given_is (after.seats side) none).1)

  -- where both sides have given an entry, all have
  all_reported : (a b : Entry T) → progress.a.given ≡ Some a → progress.b.given ≡ Some b → AllReported (pair_protocol before declared k) trace
  all_reported a b given_a given_b side seated =
      both_sides (λ s. has_reported same_side s trace ≡ true) A (given_is (after.seats A) given_a).1 (given_is (after.seats B) given_b).1 side

  module _ {X Y : Type 0} (truth : Entry T × Entry T → Y) (makes_of : Y → X) where
    -- so the law's answer is due, by what both sides have given, and the stock
    asked_by : (a b : Option (Entry T)) (stock : ℕ) → progress.a.given ≡ a → progress.b.given ≡ b →
        Asked (pair_protocol before declared k) stock (told makes_of (question_answer truth (both_given a b) stock)) trace
    asked_by None b stock given_a given_b = missing (missing_of A given_a)
    asked_by (Some x) None stock given_a given_b = missing (missing_of B given_b)
    asked_by (Some x) (Some y) zero given_a given_b = empty (all_reported x y given_a given_b) refl
    asked_by (Some x) (Some y) (suc stock) given_a given_b =
        let some : (suc stock == 0) ≡ false = ne_eqb (suc stock) 0 (λ z. omega arith) in
        rw some (answered (makes_of (truth (x, y))) (all_reported x y given_a given_b) (omega arith))

    -- and it is the one that the question gives
    pub asked_lawfully : (stock : ℕ) (answer : Result Y RunFault) → question_answer truth (both_reports progress) stock ≡ answer →
        Asked (pair_protocol before declared k) stock (told makes_of answer) trace
    asked_lawfully stock answer e =
        subst (λ (given : Result Y RunFault). Asked (pair_protocol before declared k) stock (told makes_of given) trace) e
        (asked_by progress.a.given progress.b.given stock refl refl)
