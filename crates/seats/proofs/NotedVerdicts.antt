-- What is noted in a log are the verdicts made so far, the first of the protocol's.
use Rattle.std.proofs.Common.{◌≡◌, ℕ, ◌+◌, Bool, List, [], ◌∷◌, length, reverse, take, Some, None, Ok, Option, inl, inr, sym, refl, ap, ◌∙◌, arith}
use Rattle.std.proofs.lemmas.List.{length-reverse, take_at}
use Rattle.std.proofs.lemmas.Bool.{cases_lt}
use Rattle.faults.specs.declared.refusal.Refusal.{Refusal}
use Rattle.referees.specs.declared.verdict.PairVerdict.{PairVerdict}
use Rattle.pair.specs.Bisection.{pair_verdicts}
use Rattle.pair.specs.declared.side.Side.{Side}
use Rattle.pair.specs.declared.run.StagedRun.{StagedRun}
use Rattle.pair.specs.Histories.{going}
use Rattle.pair.specs.PairCalls.{opening_refusal}
use Rattle.runs.specs.Traces.{verdicts}
use Rattle.runs.specs.Finishes.{Outcome}
use Rattle.seats.specs.HonestRuns.{declared_lengths, noted, IsRunOutcome, IsHonestRun}
use Rattle.seats.specs.ListRefusals.{IsListRefusal}
use Rattle.seats.proofs.Honesty.{lists_explain}
use Rattle.seats.proofs.HonestRunStands.{Stands}

-- a list of no length is empty
none_of : (vs : List PairVerdict) → length vs ≡ 0 → vs ≡ []
none_of [] none = refl
none_of (v ∷ vs) none = absurd (omega (arith, none))

module _ {T : Type 0} {before : T → T → Bool} {sample : T} {lists : Side → List T} {k : ℕ} {start stage : StagedRun T}
    {stock left made : ℕ} {old log : List PairVerdict} (stands : Stands before sample lists k start stage stock left made old log) where
  -- the verdicts so far, the oldest first
  abbrev so_far : List PairVerdict
  so_far = reverse (verdicts stands.past)

  as_many : length so_far ≡ made
  as_many = length-reverse (verdicts stands.past) ∙ sym stands.made_is

  -- once no list is refused, they are the first of the protocol's
  first_unrefused : ((side : Side) → IsListRefusal before (lists side) None) → take made (pair_verdicts before k lists) ≡ so_far
  first_unrefused unrefused =
      let explained = lists_explain stands.opened unrefused stands.honestly in
      let first = (stands.opened.lawful stands.past (going stage) stands.honestly.history).0.first_made lists explained in
      ap (take made) first.1 ∙ take_at so_far first.0 made as_many

  -- and before that there is none
  first_so_far : take made (pair_verdicts before k lists) ≡ so_far
  first_so_far = elim (cases_lt 0 made) [
    | inl some ↦ first_unrefused (stands.unrefused some)
    | inr none ↦
        let zero : made ≡ 0 = omega (arith, none) in
        ap (λ (n : ℕ). take n (pair_verdicts before k lists)) zero ∙ sym (none_of so_far (as_many ∙ zero))
  ]

  pub noted_so_far : (number : ℕ) → made ≡ number → log ≡ noted (take number (pair_verdicts before k lists)) old
  noted_so_far number is =
      stands.noted ∙ ap (λ (vs : List PairVerdict). noted vs old) (sym first_so_far ∙ ap (λ (n : ℕ). take n (pair_verdicts before k lists)) is)

module _ {T : Type 0} (before : T → T → Bool) (lists : Side → List T) (k stock left : ℕ) (finished : Outcome T) where
  -- a result costs a question for each verdict and one more, whatever there was to refuse
  found_at_cost : (opening of_a of_b : Option Refusal) → IsRunOutcome before lists k opening of_a of_b stock left (Ok finished) →
      stock ≡ left + finished.count + 1
  found_at_cost (Some refusal) of_a of_b c = absurd (let e = c.0 in cc)
  found_at_cost None (Some refusal) of_b c = absurd (let e = c.0 in cc)
  found_at_cost None None (Some refusal) c = absurd (let e = c.0 in cc)
  found_at_cost None None None c = c.0

  -- so it counts the verdicts that were made before the last question
  pub counts_verdicts : IsHonestRun before lists k stock left (Ok finished) → (made before_last : ℕ) → stock ≡ before_last + made →
      before_last ≡ left + 1 → made ≡ finished.count
  counts_verdicts plays made before_last paid last =
      let cost = found_at_cost (opening_refusal (declared_lengths lists) k) plays.0 plays.2.0 plays.2.2 in
      omega (arith, cost, paid, last)
