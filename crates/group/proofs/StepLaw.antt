-- A step is answered as the law says: 15 exactly if a report is missing, else 16 exactly if the stock is 0, and else accepted.
use Rattle.std.proofs.Common.{◌≡◌, ℕ, zero, suc, ◌-◌, Bool, true, false, cond, ◌&&◌, List, [], ◌∷◌, Some, None, Ok, Err, Option, Result, is_some, ◌==◌, refl, subst, sum_by, arith}
use Rattle.std.specs.Prelude.{slice_get}
use Rattle.std.proofs.lemmas.Bool.{ne_eqb}
use Rattle.faults.specs.declared.fault.RunFault.{RunFault}
use Rattle.referees.specs.Verdicts.{weight_of}
use Rattle.referees.specs.declared.verdict.GroupVerdict.{GroupVerdict}
use Rattle.runs.specs.Answers.{question_answer}
use Rattle.runs.specs.HistoryLaw.{AllReported, SomeMissing, Asked, missing, empty, answered}
use Rattle.runs.specs.declared.stage.Comparing.{Comparing}
use Rattle.group.specs.SeatTotals.{below_of, above_of}
use Rattle.group.specs.SeatValues.{SeatValue, all_given}
use Rattle.group.specs.declared.counts.Counts.{Counts}
use Rattle.group.specs.declared.run.Run.{Run}
use Rattle.group.specs.GroupCalls.{State, state_of, progress_of_run, step_asks, Stepped, Steps, step_answer}
use Rattle.group.specs.Histories.{GroupTrace}
use Rattle.group.proofs.Numbers.{seat_there, seat_within, seat_read}
use Rattle.group.proofs.OneSeat.{given_is}
use Rattle.group.proofs.Openings.{Group}
use Rattle.group.proofs.RoundSums.{some_given}
use Rattle.group.proofs.RunStands.{protocol, After}

-- some seat has given no counts in this round
abbrev SomeNone : List SeatValue → Type 0
SomeNone seats = (i : ℕ) × (value : SeatValue) × (slice_get seats i ≡ Some value) × (value.given ≡ None)

-- where not all seats have given their counts, some seat has given none
none_given : (seats : List SeatValue) → all_given seats ≡ false → SomeNone seats
none_given [] not_all = absurd cc
none_given (seat ∷ seats) not_all = of_first seat.given refl (none_given seats)
  where
    -- the first one, or else one of the others
    of_first : (given : Option Counts) → seat.given ≡ given → (all_given seats ≡ false → SomeNone seats) → SomeNone (seat ∷ seats)
    of_first None is others = (zero, seat, refl, is)
    of_first (Some counts) is others =
        let later = others (subst (λ (given : Option Counts). is_some given && all_given seats ≡ false) is not_all) in
        (suc later.0, later.1, later.2, later.3)

module _ {T : Type 0} {g : Group T} (trace : GroupTrace T) {now : State} (after : After g now trace) where
  -- where all seats have given their counts in this round, all have reported
  all_reported : all_given now.seats ≡ true → AllReported (protocol g) trace
  all_reported all number seated =
      let seat = seat_there now.seats number seated.0 (omega (arith, seated.1, after.one_a_seat)) in
      let gave = some_given now.seats (number - 1) seat.0 all (seat_read now.seats number seat.0 seat.1) in
      (given_is (after.seats number seat.0 seat.1) (Some gave.0) gave.1).1

  -- where not all have, a report is missing
  some_missing : all_given now.seats ≡ false → SomeMissing (protocol g) trace
  some_missing not_all =
      let none = none_given now.seats not_all in
      let within = seat_within now.seats (suc none.0) none.1 none.2 in (
        suc none.0,
        (within.0, omega (arith, within.1, after.one_a_seat)),
        (given_is (after.seats (suc none.0) none.1 none.2) None none.3).1,
      )

  -- so a question about the sums is answered as the law says, by whether all have given and by the stock
  question_asked : (truth : Counts → GroupVerdict) (sums : Counts) (all : Bool) → all_given now.seats ≡ all → (stock : ℕ) →
      Asked (protocol g) stock (question_answer truth (cond all (Some sums) None) stock) trace
  question_asked truth sums false not_all stock = missing (some_missing not_all)
  question_asked truth sums true all zero = empty (all_reported all) refl
  question_asked truth sums true all (suc stock) =
      let some : (suc stock == 0) ≡ false = ne_eqb (suc stock) 0 (λ z. omega arith) in
      rw some (answered (truth sums) (all_reported all) (omega arith))

  -- and so is the question of a step
  asks_lawfully : (stock : ℕ) → Asked (protocol g) stock (step_asks now stock) trace
  asks_lawfully stock =
      let sums : Counts = record { below = sum_by (λ value. below_of value.given) now.seats; above = sum_by (λ value. above_of value.given) now.seats } in
      question_asked (λ sums. weight_of sums.below sums.above now.rank now.total) sums (all_given now.seats) refl stock

module _ {T : Type 0} {g : Group T} (trace : GroupTrace T) where
  -- so a step of a run that compares is answered as the law says, whatever it comes to
  pub step_answered : (run : Run T Comparing) → After g (state_of (progress_of_run run)) trace → (stock : ℕ) (result : Stepped T) →
      Steps run stock result → Asked (protocol g) stock (step_answer result) trace
  step_answered run after stock (Ok advanced) s =
      subst (λ (answer : Result GroupVerdict RunFault). Asked (protocol g) stock answer trace) s.0 (asks_lawfully trace after stock)
  step_answered run after stock (Err refused) s =
      subst (λ (answer : Result GroupVerdict RunFault). Asked (protocol g) stock answer trace) s.0 (asks_lawfully trace after stock)
