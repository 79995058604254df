-- What the opening of a play promises, for the lengths as they are declared.
use Rattle.std.proofs.Common.{◌≡◌, ℕ, Bool, List, length, Ok, Err, ap, sym, ◌∙◌, subst}
use Rattle.elements.specs.Orders.{IsOrder}
use Rattle.faults.specs.declared.fault.RunFault.{RunFault}
use Rattle.pair.specs.Bisection.{OfSides, by_side}
use Rattle.pair.specs.declared.side.Side.{Side}
use Rattle.pair.specs.declared.side.Side.TheVariants.{A, B}
use Rattle.pair.proofs.BisectionSteps.{both_sides}
use Rattle.runs.specs.declared.slip.Slip.{Slip}
use Rattle.pair.specs.PairCalls.{opening_refusal, Opens}
use Rattle.pair.specs.declared.run.OfPair.{OfPair}
use Rattle.pair.specs.declared.run.StagedRun.{StagedRun}
use Rattle.pair.specs.PairHistoryLaw.{HistoriesKeepLaw}
use Rattle.seats.specs.HonestRuns.{declared_lengths, IsHonestRun}
use Rattle.elements.specs.Limits.{saturated}
use Rattle.seats.proofs.RunOutcomes.{comes_unopened}
use Rattle.seats.proofs.Honesty.{Opened}

module _ {T : Type 0} (lists : Side → List T) (a b : ℕ) (a_is : a ≡ saturated (length (lists A))) (b_is : b ≡ saturated (length (lists B))) where
  -- what is declared are the lengths of both lists in 32 bits
  as_declared : by_side a b ≡ declared_lengths lists
  as_declared = λ i side. both_sides (λ (s : Side). by_side a b s ≡ declared_lengths lists s) A a_is b_is side i

  module _ {before : T → T → Bool} (k : ℕ) where
    -- an accepted opening hands out a run that keeps the law
    pub run_opened : IsOrder before → {sample : T} (stage : StagedRun T) (slip : Slip OfPair T) → Opens (by_side a b) k (Ok (stage, slip)) →
        HistoriesKeepLaw before sample (by_side a b) k (Ok (stage, slip)) → Opened before sample lists k stage
    run_opened order {sample = sample} stage slip opens lawful =
        let declares = subst (λ (d : OfSides). Opens d k (Ok (stage, slip))) as_declared opens in
        record {
          order = order;
          allowed = declares.0;
          staged = declares.1;
          is_opened = declares.2;
          lawful = subst (λ (d : OfSides). HistoriesKeepLaw before sample d k (Ok (stage, slip))) as_declared lawful;
        }

    -- a refused one ends the play as is promised
    pub play_unopened : IsOrder before → (stock : ℕ) (fault : RunFault) →
        Opens {T = T} (by_side a b) k (Err fault) → IsHonestRun before lists k stock stock (Err fault)
    play_unopened order stock fault (refusal, refused, is) =
        subst (λ (f : RunFault). IsHonestRun before lists k stock stock (Err f)) (sym is)
        (comes_unopened order lists k stock refusal (ap (λ (d : OfSides). opening_refusal d k) (sym as_declared) ∙ refused))
