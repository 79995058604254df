-- Every history of the run of a pair keeps the law, and tells a seat what any other does that looks alike to it.
use Rattle.std.proofs.Common.{◌≡◌, ℕ, Bool, Ok, Err, Result, sym, refl, ap, ◌∙◌, subst}
use Rattle.elements.specs.Entries.{lesser_entry}
use Rattle.elements.specs.Orders.{IsOrder}
use Rattle.elements.specs.declared.entry.Entry.{Entry}
use Rattle.faults.specs.declared.fault.RunFault.{RunFault}
use Rattle.referees.specs.Verdicts.{first_of}
use Rattle.referees.specs.declared.verdict.PairVerdict.{PairVerdict}
use Rattle.pair.specs.Bisection.{OfSides, place_asked}
use Rattle.runs.specs.Finishes.{Outcome}
use Rattle.runs.specs.HistoryLaw.{HistoryLaw, Lawful, Asked, FinishedRightly}
use Rattle.runs.specs.Traces.{EachEvent}
use Rattle.runs.specs.declared.slip.Slip.{Slip}
use Rattle.runs.proofs.Learning.{tells_the_same}
use Rattle.pair.specs.Powers.{exponents_equal}
use Rattle.pair.specs.HalvedWindow.{offset_of}
use Rattle.pair.specs.PairCalls.{Stepped, Ending, Opens, IsOpened, Steps, Finishes as FinishAnswers, progress_of, progress_of_run, stage_of, step_answer, finish_answer}
use Rattle.pair.specs.Histories.{PairTrace, Now, going, over, History, opened, report, step, finish, break_off}
use Rattle.pair.specs.declared.progress.Progress.{Progress}
use Rattle.runs.specs.declared.stage.Closing.{Closing as ClosingStage}
use Rattle.runs.specs.declared.stage.Comparing.{Comparing as ComparingStage}
use Rattle.pair.specs.declared.run.OfPair.{OfPair}
use Rattle.pair.specs.declared.run.Run.{Run}
use Rattle.pair.specs.declared.run.StagedRun.{StagedRun}
use Rattle.pair.specs.declared.run.StagedRun.TheVariants.{Comparing, Closing}
use Rattle.pair.specs.PairHistoryLaw.{ShowsNow, HistoriesKeepLaw, HistoriesTellTheSame}
use Rattle.pair.specs.PairProtocol.{pair_protocol}
use Rattle.pair.proofs.AskedReferee.{asked_lawfully}
use Rattle.pair.proofs.ReportAnswers.{asked_of_both}
use Rattle.pair.proofs.PlacesAsked.{size_is, follows, asked_by_window}
use Rattle.pair.proofs.TraceLists.{some_lists_explain, one_of_rank, first_made, rebuilds_first}
use Rattle.pair.proofs.FinishedTrace.{finish_lawful}
use Rattle.pair.proofs.Histories.{StandsAt, stands_at}
use Rattle.pair.proofs.ReportLaw.{own_list_explains, report_answered}
use Rattle.pair.proofs.Openings.{Allowed, opening_allowed}
use Rattle.pair.proofs.RunStands.{After}

module _ {T : Type 0} {before : T → T → Bool} (o : IsOrder before) (sample : T) {declared : OfSides} {k : ℕ} (allowed : Allowed declared k) where
  -- each event of a trace is lawful
  abbrev EachLawful : PairTrace T → Type 0
  EachLawful trace = EachEvent (Lawful (pair_protocol before declared k)) trace

  -- the trace to which a run stands keeps the law, once each of its events is lawful
  law_of_run : (trace : PairTrace T) {j : ℕ} {progress : Progress T} → After before declared k j progress trace → EachLawful trace →
      HistoryLaw (pair_protocol before declared k) trace
  law_of_run trace after lawful = record {
    some_lists = some_lists_explain o trace after sample;
    own_list = λ side seated xs h. own_list_explains before declared k side xs trace h;
    one_result = one_of_rank o trace allowed;
    first_made = first_made o trace after;
    first_rebuilt = rebuilds_first o trace after;
    events = lawful;
  }

  -- so it does wherever a history stands, and there a run shows the window that the law says
  law_where_it_stands : (now : Now T) (trace : PairTrace T) → StandsAt before declared k now trace → EachLawful trace →
      HistoryLaw (pair_protocol before declared k) trace × ShowsNow k now trace
  law_where_it_stands (going stage) trace at lawful =
      let window = (progress_of stage).window in
      let led = at.1.led in (
        law_of_run trace at.1 lawful,
        record {
          rank = led.rank_is;
          follows = follows led;
          places = λ side. ap (place_asked (offset_of side window)) (size_is led) ∙ sym (asked_by_window led side);
        },
      )
  law_where_it_stands over trace at lawful = (law_of_run trace at.2 lawful, tt)

  -- a step of a comparing run is answered as the law says
  step_lawful : (run : Run T ComparingStage) (past : PairTrace T) (stock : ℕ) (result : Stepped T) → Steps before run stock result →
      StandsAt before declared k (going (Comparing run)) past → Asked (pair_protocol before declared k) stock (step_answer result) past
  step_lawful run past stock (Ok advanced) s at =
      asked_lawfully past at.1 (λ given. first_of before given.0 given.1) (λ (v : PairVerdict). v) stock (Ok advanced.verdict) s.0
  step_lawful run past stock (Err refused) s at =
      asked_lawfully past at.1 (λ given. first_of before given.0 given.1) (λ (v : PairVerdict). v) stock (Err refused.fault) s.0

  -- and so is a finish of a closing run
  finish_asked : (run : Run T ClosingStage) (past : PairTrace T) (slip : Slip OfPair T) (stock : ℕ) (result : Ending T) (any : Outcome T) →
      FinishAnswers before sample run slip stock result → StandsAt before declared k (going (Closing run)) past →
      Asked (pair_protocol before declared k) stock (finish_answer result) past
  finish_asked run past slip stock (Ok outcome) any f at =
      asked_lawfully past at.1 (λ given. lesser_entry before given.0 given.1) (λ (e : Entry T). outcome) stock (Ok f.0) f.1
  finish_asked run past slip stock (Err refused) any f at =
      asked_lawfully past at.1 (λ given. lesser_entry before given.0 given.1) (λ (e : Entry T). any) stock (Err refused.fault) f.0

  -- which hands out what the law says, if it is accepted
  finished_rightly : (run : Run T ClosingStage) (past : PairTrace T) (slip : Slip OfPair T) (stock : ℕ) (result : Ending T) →
      FinishAnswers before sample run slip stock result → StandsAt before declared k (going (Closing run)) past →
      FinishedRightly (pair_protocol before declared k) (finish_answer result) past
  finished_rightly run past slip stock (Err refused) f at = tt
  finished_rightly run past slip stock (Ok outcome) f at =
      let last : at.0 ≡ 0 = exponents_equal at.0 0 (sym (size_is at.1.led) ∙ at.2) in
      let after = subst (λ (j : ℕ). After before declared k j (progress_of_run run) past) last at.1 in
      let both = asked_of_both (λ given. lesser_entry before given.0 given.1) (progress_of_run run) stock f.0 f.1 in
      finish_lawful o sample allowed past after both outcome f.2 f.3

  module _ (start : StagedRun T) (staged : start ≡ stage_of (progress_of start)) (new : IsOpened declared k (progress_of start)) where
    -- each event of a history is lawful
    events_lawful : {trace : PairTrace T} {now : Now T} → History before sample start trace now → EachLawful trace
    events_lawful opened = tt
    events_lawful (report {past = past} side e answer left h r) =
        let at = stands_at o sample allowed start staged new h in (report_answered o sample past at.1 side e answer left r, events_lawful h)
    events_lawful (step {past = past} {run = run} stock result h s) =
        (step_lawful run past stock result s (stands_at o sample allowed start staged new h), events_lawful h)
    events_lawful (finish {past = past} {run = run} slip stock result h f) =
        let at = stands_at o sample allowed start staged new h in
        let asked = finish_asked run past slip stock result (record { result = sample; count = 0 }) f at in
        ((refl, asked, finished_rightly run past slip stock result f at), events_lawful h)
    events_lawful (break_off count h b) = (b ∙ (stands_at o sample allowed start staged new h).1.made_is, events_lawful h)

    -- so it keeps the law
    history_keeps_law : (trace : PairTrace T) (now : Now T) → History before sample start trace now →
        HistoryLaw (pair_protocol before declared k) trace × ShowsNow k now trace
    history_keeps_law trace now h = law_where_it_stands now trace (stands_at o sample allowed start staged new h) (events_lawful h)

-- every history of the run of a pair keeps the law
pub histories_keep_law : {T : Type 0} {before : T → T → Bool} (sample : T) → IsOrder before → (declared : OfSides) (rank : ℕ)
    (result : Result (StagedRun T × Slip OfPair T) RunFault) → Opens declared rank result → HistoriesKeepLaw before sample declared rank result
histories_keep_law sample order declared rank (Err fault) opens = tt
histories_keep_law sample order declared rank (Ok run) opens =
    history_keeps_law order sample (opening_allowed declared rank opens.0) run.0 opens.1 opens.2

-- and tells a seat the same as any other that looks alike to it, since a seat rebuilds one list of verdicts
pub histories_tell_the_same : {T : Type 0} {before : T → T → Bool} (sample : T) → IsOrder before → (declared : OfSides) (rank : ℕ)
    (result : Result (StagedRun T × Slip OfPair T) RunFault) → Opens declared rank result → HistoriesTellTheSame before sample declared rank result
histories_tell_the_same sample order declared rank (Err fault) opens = tt
histories_tell_the_same {before = before} sample order declared rank (Ok run) opens = λ another opens_too one other now then h g.
    tells_the_same (pair_protocol before declared rank) (λ side xs x vs ws v w. sym v ∙ w) one other
    (histories_keep_law sample order declared rank (Ok run) opens one now h).0
    (histories_keep_law sample order declared rank (Ok another) opens_too other then g).0
