-- No run makes more verdicts than the greatest rank of two lists has halvings.
use Rattle.std.proofs.Common.{◌≡◌, ℕ, ◌^◌, ◌≤◌, List, Some, None, Ok, Err, Option, Result, refl, arith}
use Rattle.std.proofs.Math.Pow.{pow_mono}
use Rattle.elements.specs.Delays.{delay_before}
use Rattle.elements.specs.declared.delay.Delay.{Delay}
use Rattle.faults.specs.declared.fault.RunFault.{RunFault}
use Rattle.faults.specs.declared.refusal.Refusal.{Refusal}
use Rattle.pair.specs.Bisection.{by_side}
use Rattle.pair.specs.PairCalls.{opening_refusal}
use Rattle.pair.proofs.Logarithms.{halvings_are_log}
use Rattle.pair.proofs.Openings.{opening_allowed}
use Rattle.runs.specs.Finishes.{Outcome}
use Rattle.seats.specs.HonestRuns.{declared_lengths, IsRunOutcome, IsHonestRun}
use Rattle.requests.specs.Rooms.{LogSuffices}

module _ (a b : List Delay) (rank stock left : ℕ) (most : ℕ) (enough : 131072 ≤ 2 ^ most) where
  -- a result comes from an allowed opening alone, so its rank is at most 2^17, and it counts the logarithm of that rank
  counted : (finished : Outcome Delay) (opening of_a of_b : Option Refusal) → opening_refusal (declared_lengths (by_side a b)) rank ≡ opening →
      IsRunOutcome delay_before (by_side a b) rank opening of_a of_b stock left (Ok finished) → finished.count ≤ most
  counted finished (Some refusal) of_a of_b is comes = let e = comes.0 in absurd cc
  counted finished None (Some refusal) of_b is comes = let e = comes.0 in absurd cc
  counted finished None None (Some refusal) is comes = let e = comes.0 in absurd cc
  counted finished None None None is finds =
      let few = pow_mono (opening_allowed (declared_lengths (by_side a b)) rank is).few_halvings in
      finds.1.count.least most (omega (arith, enough, few, (halvings_are_log rank).enough))

  pub few_verdicts : (result : Result (Outcome Delay) RunFault) → IsHonestRun delay_before (by_side a b) rank stock left result → LogSuffices most result
  few_verdicts (Ok finished) plays = counted finished _ _ _ refl plays.2.2
  few_verdicts (Err fault) plays = tt
