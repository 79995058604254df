-- A play that ends with a fault: of a refused list, or of an empty stock.
use Rattle.std.proofs.Common.{◌≡◌, ℕ, Bool, List, None, Ok, Err, Result, inl, inr, subst, arith}
use Rattle.std.proofs.lemmas.Bool.{cases_lt}
use Rattle.elements.specs.Entries.{lesser_entry}
use Rattle.elements.specs.declared.entry.Entry.{Entry}
use Rattle.faults.specs.declared.fault.RunFault.{RunFault}
use Rattle.referees.specs.Verdicts.{first_of}
use Rattle.referees.specs.declared.verdict.PairVerdict.{PairVerdict}
use Rattle.pair.specs.declared.side.Side.{Side}
use Rattle.pair.specs.declared.side.Side.TheVariants.{A, B}
use Rattle.runs.specs.Answers.{question_answer}
use Rattle.pair.specs.PairCalls.{both_reports, progress_of}
use Rattle.pair.specs.declared.progress.Progress.{Progress}
use Rattle.runs.specs.declared.stage.Closing.{Closing}
use Rattle.runs.specs.declared.stage.Comparing.{Comparing}
use Rattle.runs.specs.declared.refused.Refused.{Refused}
use Rattle.pair.specs.declared.run.OfPair.{OfPair}
use Rattle.pair.specs.declared.run.Run.{Run}
use Rattle.pair.specs.declared.run.StagedRun.{StagedRun}
use Rattle.pair.specs.declared.run.StagedRun.TheVariants.{Comparing as StillComparing, Closing as NowClosing}
use Rattle.runs.specs.declared.slip.Slip.{Slip}
use Rattle.seats.specs.ListRefusals.{IsListRefusal}
use Rattle.seats.specs.HonestRuns.{IsHonestRun}
use Rattle.seats.specs.HonestRounds.{Compares, Closes, ReportsBoth}
use Rattle.seats.proofs.RunOutcomes.{comes_refused, comes_unrefused, refused_of_both}
use Rattle.seats.proofs.Refusals.{not_both}
use Rattle.seats.proofs.HonestReports.{RefusesOne, accepted_reports, refused_reports}
use Rattle.seats.proofs.HonestRunStands.{Stands}

module _ {T : Type 0} (before : T → T → Bool) (lists : Side → List T) (answer : Result (Unit {0}) RunFault) where
  -- no list is refused where none is
  none_refused : RefusesOne before lists answer → ((side : Side) → IsListRefusal before (lists side) None) → ⊥
  none_refused (inl a) unrefused = not_both before (lists A) a.0 a.1 (unrefused A)
  none_refused (inr (none, b)) unrefused = not_both before (lists B) b.0 b.1 (unrefused B)

module _ {T : Type 0} {before : T → T → Bool} {sample : T} {lists : Side → List T} {k : ℕ} {start : StagedRun T} where
  module _ {stage : StagedRun T} {stock left made : ℕ} {old log : List PairVerdict}
      (stands : Stands before sample lists k start stage stock left made old log) where
    -- a refused list ends a play as is promised, before any verdict
    fault_of_list : (fault : RunFault) → RefusesOne before lists (Err fault) → IsHonestRun before lists k stock left (Err fault)
    fault_of_list fault refused = elim (cases_lt 0 made) [
      | inl some ↦ absurd (none_refused before lists (Err fault) refused (stands.unrefused some))
      | inr none ↦
          let all : stock ≡ left = omega (arith, stands.paid) in
          subst (λ (n : ℕ). IsHonestRun before lists k stock n (Err fault)) all
          (comes_refused stands.opened.order lists k stock stands.opened.allowed fault refused)
    ]

    -- so does a fault of a round's reports, which is that of a refused list
    fault_of_reports : (given fault : RunFault) → given ≡ fault → (progress : Progress T) →
        ReportsBoth before lists (progress_of stage) (Err given) progress → IsHonestRun before lists k stock left (Err fault)
    fault_of_reports given fault same progress reports =
        subst (λ (f : RunFault). IsHonestRun before lists k stock left (Err f)) same
        (fault_of_list given (refused_reports stands.opened stands.not_yet progress stands.honestly given reports))

    -- and an empty stock, after no more verdicts than the rank has halvings
    fault_of_stock : {Y : Type 0} (truth : Entry T × Entry T → Y) (u : Unit {0}) (progress : Progress T) →
        ReportsBoth before lists (progress_of stage) (Ok u) progress → (fault : RunFault) →
        question_answer truth (both_reports progress) left ≡ Err fault → IsHonestRun before lists k stock left (Err fault)
    fault_of_stock truth u progress reports fault e =
        let both = accepted_reports stands.opened stands.not_yet progress stands.honestly u reports in
        let empty = refused_of_both truth (progress_of stage) progress both.a both.b both.left_is left fault e in
        comes_unrefused stands.opened.order lists k stock stands.opened.allowed both.unrefused left (Err fault)
        let spent : stock ≡ made = omega (arith, empty.1, stands.paid) in (
          empty.0,
          omega (arith, spent, stands.all_rounds),
          empty.1,
        )

  module _ {stock left made : ℕ} {old log : List PairVerdict} {rest : ℕ} (same : rest ≡ left) where
    -- so a round that comes to a fault ends a play as is promised
    pub fault_of_round : {run : Run T Comparing} (refused : Refused (Run T Comparing)) →
        Stands before sample lists k start (StillComparing run) stock left made old log →
        Compares before lists run left (Err refused) → IsHonestRun before lists k stock rest (Err refused.fault)
    fault_of_round refused stands (progress, Err fault, reports, e) = rw same (fault_of_reports stands fault refused.fault (cc) progress reports)
    fault_of_round refused stands (progress, Ok u, reports, e) =
        rw same (fault_of_stock stands (λ given. first_of before given.0 given.1) u progress reports refused.fault e.0)

    -- and the last round does
    pub fault_of_last : {run : Run T Closing} {slip : Slip OfPair T} (refused : Refused (Run T Closing × Slip OfPair T)) →
        Stands before sample lists k start (NowClosing run) stock left made old log →
        Closes before sample lists run slip left (Err refused) → IsHonestRun before lists k stock rest (Err refused.fault)
    fault_of_last refused stands (progress, Err fault, reports, e) = rw same (fault_of_reports stands fault refused.fault (cc) progress reports)
    fault_of_last refused stands (progress, Ok u, reports, e) =
        rw same (fault_of_stock stands (λ given. lesser_entry before given.0 given.1) u progress reports refused.fault e.0)
