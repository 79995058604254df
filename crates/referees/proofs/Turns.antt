-- One turn of a play.
use Rattle.std.proofs.Common.{◌≡◌, ℕ, ◌+◌, ◌-◌, ◌<◌, ◌≤◌, Bool, true, false, cond, Option, Some, None, Result, Ok, Err, ltb, List, length, get_or, set, sym, refl, ap, ◌∙◌, subst, inl, inr, arith, length-set, get_or-set_other, get_or-set_same}
use Rattle.std.proofs.lemmas.List.{get_or_default}
use Rattle.std.proofs.lemmas.Bool.{cases_Bool, cases_eq, ltb-true, ltb-false, lt-ltb, le-ltb}
use Rattle.faults.specs.declared.fault.RunFault.{RunFault}
use Rattle.referees.specs.Questions.{out_of_stock}
use Rattle.elements.specs.Limits.{saturated}
use Rattle.referees.specs.declared.play.Line.{Line}
use Rattle.referees.specs.declared.question.Answer.{Answer}
use Rattle.referees.specs.declared.question.Question.{Question}
use Rattle.referees.specs.Plays.{line_at, answered_outcome, PaidFor, SpendsEach, nothing_asked, one_more}
use Rattle.referees.specs.Truths.{truth_of}

-- the lines before i are played, and those from i on are as they were
pub record PlayedTo {E : Type 0} (before : E → E → Bool) (stock i : ℕ) (old new : List (Line E)) : Type 0 where
  pub as_many : length new ≡ length old
  pub played : (j : ℕ) (d : Line E) → j < i → get_or new j d ≡ line_at before stock j (get_or old j d).question
  pub kept : (j : ℕ) (d : Line E) → i ≤ j → get_or new j d ≡ get_or old j d

flag_of : {E : Type 0} (b : Bool) (answer : Answer E) (fault : RunFault) → answered_outcome (Some (cond b (Ok answer) (Err fault))) ≡ b
flag_of true answer fault = refl
flag_of false answer fault = refl

-- stock is left at line i exactly if i is below the stock
left_at : (stock i : ℕ) → ltb 0 (stock - i) ≡ ltb i stock
left_at stock i =
    elim (cases_Bool (ltb i stock)) [
      | inl e ↦
          let h : i < stock = ltb-true i stock e in
          lt-ltb 0 (stock - i) (omega arith) ∙ sym e
      | inr e ↦
          let h : stock ≤ i = ltb-false i stock e in
          le-ltb 0 (stock - i) (omega arith) ∙ sym e
    ]

module _ {E : Type 0} (before : E → E → Bool) where
  -- a play from line i on is one begun at what is left of the stock
  begun_later : (stock i : ℕ) (question : Question E) → line_at before (stock - i) 0 question ≡ line_at before stock i question
  begun_later stock i question =
      let p : stock - i - (0 + 1) ≡ stock - (i + 1) = omega arith in
      λ k. record { question = question; outcome = Some (cond (left_at stock i k) (Ok (truth_of before question)) (Err out_of_stock)); left = saturated (p k) }

  -- one more line, asked when i questions were spent
  pub turn : (stock rest i : ℕ) (old new : List (Line E)) (line d : Line E) → i < length old → PlayedTo before stock i old new → rest ≡ stock - i →
      line ≡ line_at before rest 0 (get_or new i d).question → PlayedTo before stock (i + 1) old (set new i line)
  turn stock rest i old new line d h p r e = record {
    as_many = length-set new i line ∙ p.as_many;
    played = λ j z k. elim (cases_eq j i) [
      | inl q ↦
          let n : i < length new = omega (arith, p.as_many) in
          let o : get_or new i d ≡ get_or old i z = p.kept i d (omega arith) ∙ get_or_default old i d z h in
          let l : line ≡ line_at before stock i (get_or old i z).question
          = e ∙ (λ m. line_at before (r m) 0 (o m).question) ∙ begun_later stock i (get_or old i z).question in
          ap (λ (m : ℕ). get_or (set new i line) m z) q ∙ get_or-set_same new i line z n ∙ l ∙ ap (λ (m : ℕ). line_at before stock m (get_or old m z).question) (sym q)
      | inr q ↦ get_or-set_other new i j line z q ∙ p.played j z (omega (arith, q))
    ];
    kept = λ j z k. get_or-set_other new i j line z (λ q. omega (arith, q)) ∙ p.kept j z (omega arith);
  }

  -- it is answered exactly if the stock lasted to it
  flag_at : (stock rest i : ℕ) (question : Question E) (line : Line E) → rest ≡ stock - i → line ≡ line_at before rest 0 question → answered_outcome line.outcome ≡ ltb i stock
  flag_at stock rest i question line r e =
      ap (λ (l : Line E). answered_outcome l.outcome) e ∙ flag_of (ltb 0 rest) (truth_of before question) out_of_stock ∙ ap (λ (m : ℕ). ltb 0 m) r ∙ left_at stock i

  pub answered_below : (stock rest i : ℕ) (question : Question E) (line : Line E) → rest ≡ stock - i → line ≡ line_at before rest 0 question → true ≡ answered_outcome line.outcome → i < stock
  answered_below stock rest i question line r e a = ltb-true i stock (sym (a ∙ flag_at stock rest i question line r e))

  pub refused_from : (stock rest i : ℕ) (question : Question E) (line : Line E) → rest ≡ stock - i → line ≡ line_at before rest 0 question → false ≡ answered_outcome line.outcome → stock ≤ i
  refused_from stock rest i question line r e a = ltb-false i stock (sym (a ∙ flag_at stock rest i question line r e))

module _ {R E : Type 0} (spends : R → R → Type 0) where
  -- an answered line is paid for
  paid_if_answered : (old new : R) (outcome : Option (Result (Answer E) RunFault)) → PaidFor spends old new outcome → true ≡ answered_outcome outcome → spends old new
  paid_if_answered old new (Some (Ok answer)) paid is = paid
  paid_if_answered old new (Some (Err fault)) paid is = absurd cc
  paid_if_answered old new None paid is = absurd cc

  -- any other line leaves the referee as it was
  same_if_refused : (old new : R) (outcome : Option (Result (Answer E) RunFault)) → PaidFor spends old new outcome → false ≡ answered_outcome outcome → new ≡ old
  same_if_refused old new (Some (Ok answer)) paid is = absurd cc
  same_if_refused old new (Some (Err fault)) paid is = paid
  same_if_refused old new None paid is = paid

  -- an answered line is one more of the answered questions
  pub spends_once_more : {start old new : R} {answered then : ℕ} (outcome : Option (Result (Answer E) RunFault)) → SpendsEach spends start answered old →
      PaidFor spends old new outcome → true ≡ answered_outcome outcome → then ≡ answered + 1 → SpendsEach spends start then new
  spends_once_more {start} {old} {new} {answered} {then} outcome each paid is one =
      subst (λ (n : ℕ). SpendsEach spends start n new) (omega (arith, one)) (one_more each (paid_if_answered old new outcome paid is))

  -- and any other is none of them
  pub spends_no_more : {start old new : R} {answered then : ℕ} (outcome : Option (Result (Answer E) RunFault)) → SpendsEach spends start answered old →
      PaidFor spends old new outcome → false ≡ answered_outcome outcome → then ≡ answered → SpendsEach spends start then new
  spends_no_more {start} {old} {new} {answered} {then} outcome each paid is as_many =
      subst (SpendsEach spends start then) (sym (same_if_refused old new outcome paid is)) (subst (λ (n : ℕ). SpendsEach spends start n old) (sym as_many) each)

-- where no question is answered, the referee is as it was
pub none_spent : {R : Type 0} {spends : R → R → Type 0} {old new : R} {answered : ℕ} → SpendsEach spends old answered new → answered ≡ 0 → new ≡ old
none_spent nothing_asked none = refl
none_spent (one_more each paid) none = absurd (omega (arith, none))
