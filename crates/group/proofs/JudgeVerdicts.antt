-- Verdicts, the newest first, that a judge gives at the targets that they lead to: they begin the judge's run.
use Rattle.std.proofs.Common.{◌≡◌, ℕ, List, [], ◌∷◌, ◌++◌, reverse, sym, refl, ap, ◌∙◌}
use Rattle.std.specs.List.{AllByRecursion as Each}
use mathlib.Core.List.{reverse_aux-eq}
use Rattle.referees.specs.declared.verdict.GroupVerdict.{GroupVerdict}
use Rattle.referees.specs.declared.verdict.GroupVerdict.TheVariants.{Lower, Higher, Done}
use Rattle.group.specs.Ranges.{target, from_after, to_after}
use Rattle.group.specs.Searches.{Search, done, lower, higher}
use Rattle.group.proofs.NarrowedRanges.{GoesOn}
use Rattle.group.specs.GroupProtocol.{left_after, target_after}

-- none of these verdicts is done
abbrev pub AllGoOn : List GroupVerdict → Type 0
AllGoOn made = Each GoesOn made

module _ (judge : ℕ → GroupVerdict) where
  -- a run whose first verdict goes on goes on with the others from the range that it leaves
  run_after : {a b m : ℕ} {verdicts : List GroupVerdict} (verdict : GroupVerdict) → GoesOn verdict → judge (target a b) ≡ verdict →
      Search judge a b verdicts m →
      (later : List GroupVerdict) × (verdicts ≡ verdict ∷ later) × Search judge (from_after verdict a b) (to_after verdict a b) later m
  run_after Lower on e (done order is) = absurd cc
  run_after Lower on e (lower {later = later} order is run) = (later, refl, run)
  run_after Lower on e (higher order is run) = absurd cc
  run_after Higher on e (done order is) = absurd cc
  run_after Higher on e (lower order is run) = absurd cc
  run_after Higher on e (higher {later = later} order is run) = (later, refl, run)
  run_after Done on e run = absurd on

  -- a run whose first verdict is done has no other, and ends at the target
  pub run_done : {a b m : ℕ} {verdicts : List GroupVerdict} → judge (target a b) ≡ Done → Search judge a b verdicts m →
      (verdicts ≡ Done ∷ []) × (m ≡ target a b)
  run_done e (done order is) = (refl, refl)
  run_done e (lower order is run) = (cc, cc)
  run_done e (higher order is run) = (cc, cc)

  module _ (lo hi : ℕ) where
    -- the judge gives each of these verdicts at the target that was asked when it came
    abbrev pub ByJudge : List GroupVerdict → Type 0
    ByJudge [] = Unit {0}
    ByJudge (verdict ∷ past) = (judge (target_after lo hi past) ≡ verdict) × ByJudge past

    -- so the judge's run begins with them, in order, and goes on from the range to which they lead
    pub run_goes_on : (made : List GroupVerdict) → AllGoOn made → ByJudge made → {m : ℕ} {verdicts : List GroupVerdict} → Search judge lo hi verdicts m →
        let left = left_after lo hi made in (rest : List GroupVerdict) × (verdicts ≡ reverse made ++ rest) × Search judge left.a left.b rest m
    run_goes_on [] on by_judge {verdicts = verdicts} run = (verdicts, refl, run)
    run_goes_on (verdict ∷ past) on by_judge run =
        let before = run_goes_on past on.1 by_judge.1 run in
        let after = run_after verdict on.0 by_judge.0 before.2 in
        let later = after.0 in (
          later,
          before.1 ∙ ap (λ (rest : List GroupVerdict). reverse past ++ rest) after.1
              ∙ (sym (reverse_aux-eq past (verdict ∷ later)) ∙ reverse_aux-eq (verdict ∷ past) later),
          after.2,
        )
