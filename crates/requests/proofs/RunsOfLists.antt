-- What a play of two lists that were read comes to.
use Rattle.std.proofs.Common.{◌≡◌, ℕ, ◌-◌, List, take, Some, None, Ok, Err, Option, Result, refl, ap, ◌∙◌, arith}
use Rattle.std.proofs.lemmas.List.{take_all}
use Rattle.elements.specs.Delays.{delay_before}
use Rattle.elements.specs.declared.delay.Delay.{Delay}
use Rattle.faults.specs.declared.fault.RunFault.{RunFault}
use Rattle.faults.specs.declared.refusal.Refusal.{Refusal}
use Rattle.seats.specs.HonestRuns.{declared_lengths, IsRunOutcome, IsHonestRun, FindsBy, noted, NotesVerdicts}
use Rattle.pair.specs.Bisection.{by_side, pair_verdicts}
use Rattle.referees.specs.declared.verdict.PairVerdict.{PairVerdict}
use Rattle.pair.proofs.Openings.{opening_allowed}
use Rattle.pair.specs.PairCalls.{opening_refusal}
use Rattle.runs.specs.Finishes.{Outcome}
use Rattle.seats.specs.ListRefusals.{IsListRefusal}
use Rattle.requests.specs.RequestAnswers.{Memory, Found}
use Rattle.requests.specs.RequestLayout.{rank_of}
use Rattle.requests.proofs.ReadLists.{none_found}

module _ (bytes : List ℕ) (before after : Memory) (a b : List Delay) (left : ℕ) where
  -- the rank that is asked for
  abbrev rank : ℕ
  rank = rank_of bytes

  -- the protocol's verdicts
  abbrev verdicts : List PairVerdict
  verdicts = pair_verdicts delay_before rank (by_side a b)

  -- what is noted of them
  abbrev Notes : Result (Outcome Delay) RunFault → Type 0
  Notes result = NotesVerdicts delay_before (by_side a b) rank 64 left before.log after.log result

  -- where nothing is refused, a stock of 64 lasts, and the element is found
  found : (result : Result (Outcome Delay) RunFault) → opening_refusal (declared_lengths (by_side a b)) rank ≡ None →
      FindsBy delay_before (by_side a b) rank 64 left result → Notes result →
      Found bytes before after result a b None
  found (Ok finished) allowed finds notes =
      let all : take finished.count verdicts ≡ verdicts = take_all finished.count verdicts (omega (arith, finds.1.all_made)) in
      (finished, refl, finds.1, notes ∙ ap (λ (vs : List PairVerdict). noted vs before.log) all)
  found (Err fault) allowed finds notes =
      let few = (opening_allowed (declared_lengths (by_side a b)) rank allowed).few_halvings in
      absurd (omega (arith, few, finds.1))

  -- a refused opening asks nothing, so nothing is noted
  refused_opening : (result : Result (Outcome Delay) RunFault) (fault : RunFault) → result ≡ Err fault → left ≡ 64 →
      Notes result → after.log ≡ before.log
  refused_opening (Ok finished) fault is same notes = absurd cc
  refused_opening (Err other) fault is same notes =
      let none : 64 - left ≡ 0 = omega (arith, same) in
      notes ∙ ap (λ (n : ℕ). noted (take n verdicts) before.log) none

  -- what a play comes to where its lists are not refused
  found_or_unopened : (result : Result (Outcome Delay) RunFault) (opening of_a of_b : Option Refusal) →
      opening_refusal (declared_lengths (by_side a b)) rank ≡ opening → of_a ≡ None → of_b ≡ None →
      IsRunOutcome delay_before (by_side a b) rank opening of_a of_b 64 left result → Notes result →
      Found bytes before after result a b opening
  found_or_unopened result (Some refusal) of_a of_b is none_a none_b comes notes = (comes.0, refused_opening result _ comes.0 comes.1 notes)
  found_or_unopened result None (Some refusal) of_b is none_a none_b comes notes = absurd cc
  found_or_unopened result None None (Some refusal) is none_a none_b comes notes = absurd cc
  found_or_unopened result None None None is none_a none_b comes notes = found result is comes notes

  -- so a play of two lists of which a seat can report finds the element, or its opening is refused
  pub play_answers : (result : Result (Outcome Delay) RunFault) → IsListRefusal delay_before a None → IsListRefusal delay_before b None →
      IsHonestRun delay_before (by_side a b) rank 64 left result → Notes result →
      Found bytes before after result a b (opening_refusal (declared_lengths (by_side a b)) rank)
  play_answers result fit_a fit_b plays notes =
      found_or_unopened result (opening_refusal (declared_lengths (by_side a b)) rank) plays.0 plays.2.0 refl
      (none_found delay_before a fit_a plays.0 plays.1) (none_found delay_before b fit_b plays.2.0 plays.2.1) plays.2.2 notes
