-- A search of a range, round by round: what verdicts it leads to, and where it ends, where a judge gives the verdict on each target.
use Rattle.std.specs.Prelude.{◌≡◌, ℕ, ◌+◌, ◌-◌, ◌≤◌, List, [], ◌∷◌}
use Rattle.referees.specs.declared.verdict.GroupVerdict.{GroupVerdict}
use Rattle.referees.specs.declared.verdict.GroupVerdict.TheVariants.{Lower, Higher, Done}
use Rattle.group.specs.Ranges.{target}

-- From the range a to b, which is not empty, these verdicts lead to the place m. The judge who weighs lists makes the
-- group's verdicts; the judge who knows the result alone makes what is rebuilt from it. No call rebuilds.
pub data Search (judge : ℕ → GroupVerdict) : (a b : ℕ) → List GroupVerdict → (m : ℕ) → Type 0 where
  done : {a b : ℕ} → a ≤ b → judge (target a b) ≡ Done → Search judge a b (Done ∷ []) (target a b)
  lower : {a b m : ℕ} {later : List GroupVerdict} → a ≤ b → judge (target a b) ≡ Lower →
      Search judge a (target a b - 1) later m → Search judge a b (Lower ∷ later) m
  higher : {a b m : ℕ} {later : List GroupVerdict} → a ≤ b → judge (target a b) ≡ Higher →
      Search judge (target a b + 1) b later m → Search judge a b (Higher ∷ later) m
