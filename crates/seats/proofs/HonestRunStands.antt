-- How a play of honest seats stands between its rounds.
use Rattle.std.proofs.Common.{◌≡◌, ℕ, ◌+◌, ◌^◌, ◌<◌, ◌≤◌, Bool, false, List, [], ◌∷◌, ◌++◌, length, reverse, set, None, sym, refl, ap, ◌∙◌, subst, arith}
use Rattle.std.proofs.lemmas.List.{length-reverse}
use mathlib.Core.List.{reverse_aux-eq}
use Rattle.referees.specs.declared.verdict.PairVerdict.{PairVerdict}
use Rattle.pair.specs.Rows.{halvings}
use Rattle.pair.specs.declared.side.Side.{Side}
use Rattle.runs.specs.Traces.{verdicts, has_reported}
use Rattle.pair.specs.PairCalls.{stage_of, progress_of}
use Rattle.pair.specs.Histories.{PairTrace, going, opened}
use Rattle.pair.specs.declared.run.StagedRun.{StagedRun}
use Rattle.pair.specs.PairProtocol.{same_side}
use Rattle.pair.proofs.Openings.{opening_allowed}
use Rattle.seats.specs.ListRefusals.{IsListRefusal}
use Rattle.seats.specs.HonestRuns.{declared_lengths, noted}
use Rattle.seats.proofs.Honesty.{Opened, HonestHistory}

-- verdicts, of which the newest is first, are noted in a log from its start
abbrev pub Noted : (newest old log : List PairVerdict) → Type 0
Noted newest old log = log ≡ noted (reverse newest) old

-- one verdict more, put at the place after those noted, is noted too
noted_last : (verdicts old : List PairVerdict) (verdict : PairVerdict) →
    set (noted verdicts old) (length verdicts) verdict ≡ noted (verdicts ++ verdict ∷ []) old
noted_last [] [] verdict = refl
noted_last [] (place ∷ rest) verdict = refl
noted_last (earlier ∷ verdicts) [] verdict = refl
noted_last (earlier ∷ verdicts) (place ∷ rest) verdict = ap (λ (vs : List PairVerdict). earlier ∷ vs) (noted_last verdicts rest verdict)

pub noted_more : (made : ℕ) (newest old log : List PairVerdict) (verdict : PairVerdict) → made ≡ length newest → Noted newest old log →
    Noted (verdict ∷ newest) old (set log made verdict)
noted_more made newest old log verdict made_is is =
    let here : made ≡ length (reverse newest) = made_is ∙ sym (length-reverse newest) in
    ap (λ (l : List PairVerdict). set l made verdict) is ∙ ap (λ (n : ℕ). set (noted (reverse newest) old) n verdict) here
    ∙ noted_last (reverse newest) old verdict ∙ ap (λ (vs : List PairVerdict). noted vs old) (sym (reverse_aux-eq newest (verdict ∷ [])))

module _ {T : Type 0} (before : T → T → Bool) (sample : T) (lists : Side → List T) (k : ℕ) (start : StagedRun T) where
  -- between rounds: the history so far is of honest reports and has so many verdicts, each noted and paid from the stock
  pub record Stands (stage : StagedRun T) (stock left made : ℕ) (old log : List PairVerdict) : Type 0 where
    pub opened : Opened before sample lists k start
    pub past : PairTrace T
    pub honestly : HonestHistory before sample lists k start past (going stage)
    pub not_yet : (side : Side) → has_reported same_side side past ≡ false
    pub staged : stage ≡ stage_of (progress_of stage)
    -- the window can be halved so many times more
    pub rounds : ℕ
    pub size_is : (progress_of stage).window.size ≡ 2 ^ rounds
    pub all_rounds : made + rounds ≡ halvings k
    pub made_is : made ≡ length (verdicts past)
    pub paid : stock ≡ left + made
    pub noted : Noted (verdicts past) old log
    -- once there is a verdict, no list is refused
    pub unrefused : 0 < made → (side : Side) → IsListRefusal before (lists side) None

module _ {T : Type 0} {before : T → T → Bool} {sample : T} {lists : Side → List T} {k : ℕ} {start : StagedRun T} where
  -- so a play stands at its start
  pub stands_at_start : Opened before sample lists k start → (stock : ℕ) (log : List PairVerdict) →
      Stands before sample lists k start start stock stock 0 log log
  stands_at_start o stock log = record {
    opened = o;
    past = [];
    honestly = record { history = opened; reports = λ side. tt };
    not_yet = λ side. refl;
    staged = o.staged;
    rounds = halvings k;
    size_is = o.is_opened.window.all;
    all_rounds = omega arith;
    made_is = refl;
    paid = omega arith;
    noted = refl;
    unrefused = λ some. absurd (omega arith);
  }

  -- there are never more than 17 verdicts
  pub few_verdicts : {stage : StagedRun T} {stock left made : ℕ} {old log : List PairVerdict} →
      Stands before sample lists k start stage stock left made old log → made ≤ 17
  few_verdicts stands =
      let few = (opening_allowed (declared_lengths lists) k stands.opened.allowed).few_halvings in
      omega (arith, few, stands.all_rounds)

  -- it stands at a run that is the same
  pub stands_where : {stage other : StagedRun T} {stock left made : ℕ} {old log : List PairVerdict} → stage ≡ other →
      Stands before sample lists k start stage stock left made old log → Stands before sample lists k start other stock left made old log
  stands_where {stock = stock} {left = left} {made = made} {old = old} {log = log} same stands =
      subst (λ (s : StagedRun T). Stands before sample lists k start s stock left made old log) same stands
