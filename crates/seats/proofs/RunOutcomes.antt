-- What a play comes to, by what there is to refuse.
use Rattle.std.proofs.Common.{◌≡◌, ℕ, zero, suc, Bool, false, List, inl, inr, None, Some, Ok, Err, Option, Result, ◌==◌, sym, refl, ap, subst, arith}
use Rattle.std.proofs.lemmas.Bool.{ne_eqb}
use Rattle.elements.specs.Orders.{IsOrder}
use Rattle.elements.specs.declared.entry.Entry.{Entry}
use Rattle.faults.specs.declared.fault.RunFault.{RunFault}
use Rattle.faults.specs.declared.fault.RunFault.TheVariants.{OfSeat, Own}
use Rattle.faults.specs.declared.fault.SeatFault.TheVariants.{Own as OwnSeat}
use Rattle.faults.specs.declared.seat.Seat.TheVariants as Seats
use Rattle.faults.specs.declared.refusal.Refusal.{Refusal}
use Rattle.referees.specs.Questions.{out_of_stock}
use Rattle.pair.specs.declared.side.Side.{Side}
use Rattle.pair.specs.declared.side.Side.TheVariants.{A, B}
use Rattle.runs.specs.Answers.{question_answer}
use Rattle.runs.specs.Finishes.{Outcome}
use Rattle.pair.specs.PairCalls.{opening_refusal, both_reports, with_given}
use Rattle.pair.specs.declared.progress.Progress.{Progress}
use Rattle.seats.specs.ListRefusals.{IsListRefusal}
use Rattle.seats.specs.HonestRuns.{declared_lengths, IsRunOutcome, FindsBy, IsHonestRun}
use Rattle.seats.proofs.Refusals.{refusal_of}
use Rattle.seats.proofs.HonestReports.{RefusesOne}

module _ {T : Type 0} {before : T → T → Bool} (o : IsOrder before) (lists : Side → List T) (k stock : ℕ) where
  -- a play that is not opened is refused as the opening is
  pub comes_unopened : (refusal : Refusal) → opening_refusal (declared_lengths lists) k ≡ Some refusal →
      IsHonestRun before lists k stock stock (Err (Own refusal None))
  comes_unopened refusal e =
      let a = refusal_of before (lists A) o in
      let b = refusal_of before (lists B) o in
      let come = λ (opening : Option Refusal). IsRunOutcome before lists k opening a.0 b.0 stock stock (Err (Own refusal None)) in
      (a.0, a.1, (b.0, b.1, subst come (sym e) (refl, refl)))

  -- one that is opened comes to what is to be said of its lists and the stock
  comes_opened : opening_refusal (declared_lengths lists) k ≡ None → (of_a of_b : Option Refusal) → IsListRefusal before (lists A) of_a →
      IsListRefusal before (lists B) of_b → (left : ℕ) (result : Result (Outcome T) RunFault) →
      IsRunOutcome before lists k None of_a of_b stock left result → IsHonestRun before lists k stock left result
  comes_opened e of_a of_b a b left result come =
      (of_a, a, (of_b, b, subst (λ (opening : Option Refusal). IsRunOutcome before lists k opening of_a of_b stock left result) (sym e) come))

  module _ (allowed : opening_refusal (declared_lengths lists) k ≡ None) where
    -- with a refused list it is refused as the first such list is, and nothing is asked
    pub comes_refused : (fault : RunFault) → RefusesOne before lists (Err fault) → IsHonestRun before lists k stock stock (Err fault)
    comes_refused fault (inl a) =
        let b = refusal_of before (lists B) o in
        let is : fault ≡ OfSeat (OwnSeat a.0 (Some Seats.A)) = cc in
        comes_opened allowed (Some a.0) b.0 a.1 b.1 stock (Err fault) (ap Err is, refl)
    comes_refused fault (inr (unrefused, b)) =
        let is : fault ≡ OfSeat (OwnSeat b.0 (Some Seats.B)) = cc in
        comes_opened allowed None (Some b.0) unrefused b.1 stock (Err fault) (ap Err is, refl)

    -- with none it comes to what the stock allows
    pub comes_unrefused : ((side : Side) → IsListRefusal before (lists side) None) → (left : ℕ) (result : Result (Outcome T) RunFault) →
        FindsBy before lists k stock left result → IsHonestRun before lists k stock left result
    comes_unrefused unrefused left result come = comes_opened allowed None None (unrefused A) (unrefused B) left result come

module _ {T Y : Type 0} (truth : Entry T × Entry T → Y) where
  -- a question about two entries is refused for an empty stock alone
  refused_of_two : (reports : Entry T × Entry T) (stock : ℕ) (fault : RunFault) → question_answer truth (Some reports) stock ≡ Err fault →
      (fault ≡ out_of_stock) × (stock ≡ 0)
  refused_of_two reports zero fault e = (cc, refl)
  refused_of_two reports (suc stock) fault e =
      let some : (suc stock == 0) ≡ false = ne_eqb (suc stock) 0 (λ z. omega arith) in
      let same : ◌≡◌ {A = Result Y RunFault} (Ok (truth reports)) (Err fault) = rw some at e in
      absurd cc

  -- so is one of a run to which both sides have reported
  pub refused_of_both : (old new : Progress T) (a b : Entry T) → new ≡ with_given B b (with_given A a old) → (stock : ℕ) (fault : RunFault) →
      question_answer truth (both_reports new) stock ≡ Err fault → (fault ≡ out_of_stock) × (stock ≡ 0)
  refused_of_both old new a b is stock fault e =
      refused_of_two (a, b) stock fault (subst (λ (p : Progress T). question_answer truth (both_reports p) stock ≡ Err fault) is e)
