-- Every history of the run of a group keeps the law.
use Rattle.std.proofs.Common.{◌≡◌, ℕ, Bool, List, [], ◌++◌, reverse, Ok, Err, Result, sym, refl, ◌∙◌, subst}
use Rattle.std.proofs.lemmas.List.{append-nil}
use Rattle.elements.specs.Orders.{IsOrder, PlacesAgree, OneElementEach, PlaceLaw}
use Rattle.faults.specs.declared.fault.RunFault.{RunFault}
use Rattle.elements.specs.Ranks.{joint, Ranked}
use Rattle.referees.specs.declared.verdict.GroupVerdict.{GroupVerdict}
use Rattle.runs.specs.HistoryLaw.{ExplainAll, Rebuilt, Lawful, HistoryLaw}
use Rattle.runs.proofs.Learning.{OneRebuild, tells_the_same}
use Rattle.runs.specs.Traces.{verdicts, EachEvent}
use Rattle.runs.specs.declared.slip.Slip.{Slip}
use Rattle.group.specs.SeatCounts.{weighed, verdict_knowing}
use Rattle.group.specs.Searches.{Search as Weighing}
use Rattle.group.specs.GroupCalls.{Opens, state_of, opened_state}
use Rattle.group.specs.Histories.{GroupTrace, Now, going, over, History, opened, report, step, finish, break_off}
use Rattle.runs.specs.declared.stage.Comparing.{Comparing}
use Rattle.group.specs.declared.run.OfGroup.{OfGroup}
use Rattle.group.specs.declared.run.Run.{Run}
use Rattle.group.specs.declared.run.StagedRun.{StagedRun}
use Rattle.group.specs.declared.run.StagedRun.TheVariants.{Comparing as StillComparing, Closing as NowClosing}
use Rattle.group.specs.GroupHistoryLaw.{ShowsNow, HistoriesKeepLaw, HistoriesTellTheSame}
use Rattle.group.proofs.ClosedRuns.{begins_weighing, is_weighing}
use Rattle.group.proofs.TraceLists.{one_of_rank, some_lists_explain}
use Rattle.group.proofs.FinishedTrace.{rebuilds_weighing, finish_lawful}
use Rattle.group.proofs.Histories.{AtStage, StandsAt, made_counted, shows_range, stands_at}
use Rattle.group.proofs.ReportLaw.{own_list_explains, report_answered}
use Rattle.group.proofs.Openings.{Group, Allowed, opening_allowed}
use Rattle.group.proofs.RunStands.{protocol, explains_accepted, accepted_explained}
use Rattle.group.proofs.SearchFinds.{one_search}
use Rattle.group.proofs.StepLaw.{step_answered}

module _ {T : Type 0} {g : Group T} (o : IsOrder g.before) (agrees : PlacesAgree g.before g.place) (each : OneElementEach g.place g.lowest g.highest)
    (allowed : Allowed g) where
  -- each event of a trace is as the law says
  abbrev AllLawful : GroupTrace T → Type 0
  AllLawful trace = EachEvent (Lawful (protocol g)) trace

  -- some lists explain the reports of the trace of a run
  some_lists : (stage : StagedRun T) (trace : GroupTrace T) → AtStage g stage trace →
      (lists : List (List T)) × ExplainAll (protocol g) lists trace
  some_lists (StillComparing run) trace after =
      let some = some_lists_explain each allowed after in (some.0, accepted_explained trace some.0 some.1)
  some_lists (NowClosing run) trace closed =
      let some = some_lists_explain each allowed closed.stood in (some.0, accepted_explained trace some.0 some.1)

  -- whatever lists do, the weighing of them has its verdicts, and a rest, and ends at the place of their element
  first_weighed : (stage : StagedRun T) (trace : GroupTrace T) → AtStage g stage trace →
      (lists : List (List T)) → ExplainAll (protocol g) lists trace → (x : T) → Ranked g.before g.k (joint lists) x →
      (rest : List GroupVerdict) × Weighing (weighed g.place g.k lists) g.lo g.hi (reverse (verdicts trace) ++ rest) (g.place x)
  first_weighed (StillComparing run) trace after lists all x r =
      let begins = begins_weighing o agrees (explains_accepted trace lists all) x r after in (begins.0, begins.1)
  first_weighed (NowClosing run) trace closed lists all x r =
      let made = reverse (verdicts trace) in (
        [],
        subst (λ (vs : List GroupVerdict). Weighing (weighed g.place g.k lists) g.lo g.hi vs (g.place x)) (sym (append-nil made))
            (is_weighing o agrees (explains_accepted trace lists all) x r closed).0,
      )

  -- so the weighing of the lists makes the verdicts, and a rest
  first_made : (stage : StagedRun T) (trace : GroupTrace T) → AtStage g stage trace →
      (lists : List (List T)) → ExplainAll (protocol g) lists trace →
      (rest : List GroupVerdict) × (protocol g).Makes lists (reverse (verdicts trace) ++ rest)
  first_made stage trace at lists all =
      let w = one_of_rank (explains_accepted trace lists all) o allowed in
      let made = first_weighed stage trace at lists all w.0 w.1 in
      (made.0, (g.place w.0, made.1))

  -- and each seat rebuilds them
  first_rebuilt : (stage : StagedRun T) (trace : GroupTrace T) → AtStage g stage trace →
      (lists : List (List T)) → ExplainAll (protocol g) lists trace → (x : T) → Ranked g.before g.k (joint lists) x →
      (rest : List GroupVerdict) × Rebuilt (protocol g) lists x (reverse (verdicts trace) ++ rest)
  first_rebuilt stage trace at lists all x r =
      let made = first_weighed stage trace at lists all x r in
      (made.0, rebuilds_weighing {g = g} o agrees trace lists (explains_accepted trace lists all) x r (reverse (verdicts trace) ++ made.0) made.1)

  -- the trace of a run keeps the law, once its events are as the law says
  law_of_run : (stage : StagedRun T) (trace : GroupTrace T) → AtStage g stage trace → AllLawful trace → HistoryLaw (protocol g) trace
  law_of_run stage trace at lawful = record {
    some_lists = some_lists stage trace at;
    own_list = λ number seated xs h. own_list_explains g number xs trace h;
    one_result = λ lists all. one_of_rank (explains_accepted trace lists all) o allowed;
    first_made = first_made stage trace at;
    first_rebuilt = λ lists all rebuildable. first_rebuilt stage trace at lists all;
    events = lawful;
  }

  -- so it does wherever a history stands, and there a run shows what the law says
  law_where_it_stands : (now : Now T) (trace : GroupTrace T) → StandsAt g now trace → AllLawful trace →
      HistoryLaw (protocol g) trace × ShowsNow g.lo g.hi now trace
  law_where_it_stands (going stage) trace at lawful = (law_of_run stage trace at lawful, shows_range g stage trace at)
  law_where_it_stands over trace at lawful = (law_of_run at.0 trace at.1 lawful, tt)

  module _ (sample : T) (start : Run T Comparing) (new : state_of start.progress ≡ opened_state g.declared g.lo g.hi g.k) where
    -- where a history stands, its run stands to its trace
    stands : {trace : GroupTrace T} {now : Now T} → History g.place g.lowest g.highest sample start trace now →
        StandsAt g now trace
    stands h = stands_at allowed sample start new h

    -- each event of a history is as the law says
    events_lawful : {trace : GroupTrace T} {now : Now T} → History g.place g.lowest g.highest sample start trace now → AllLawful trace
    events_lawful opened = tt
    events_lawful (report {past = past} number counts answer h r) =
        (report_answered each allowed past (stands h) number counts answer r.0, events_lawful h)
    events_lawful (step {past = past} {run = run} stock result h s) = (step_answered past run (stands h) stock result s, events_lawful h)
    events_lawful (finish {past = past} ending h f) =
        ((refl, (ending, refl), finish_lawful o agrees past each allowed (stands h) sample ending f.element f.count), events_lawful h)
    events_lawful (break_off {past = past} {stage = stage} count h b) = (b ∙ made_counted g stage past (stands h), events_lawful h)

    -- so it keeps the law
    history_keeps_law : (trace : GroupTrace T) (now : Now T) → History g.place g.lowest g.highest sample start trace now →
        HistoryLaw (protocol g) trace × ShowsNow g.lo g.hi now trace
    history_keeps_law trace now h = law_where_it_stands now trace (stands h) (events_lawful h)

module _ {T : Type 0} (before : T → T → Bool) (sample : T) (place : T → ℕ) (lowest highest : ℕ) (order : IsOrder before)
    (places : PlaceLaw before place lowest highest) (declared : List ℕ) (lo hi rank : ℕ) where
  -- the group as it is opened
  abbrev group : Group T
  group = record { before = before; place = place; lowest = lowest; highest = highest; declared = declared; lo = lo; hi = hi; k = rank }

  -- every history of a run just opened keeps the law
  law_from_opening : (run : Run T Comparing × Slip OfGroup T) → Opens lowest highest declared lo hi rank (Ok run) →
      HistoriesKeepLaw before sample place lowest highest declared lo hi rank (Ok run)
  law_from_opening run opens = history_keeps_law {g = group} order places.agrees places.complete (opening_allowed group places.fits opens.0) sample run.0 opens.1

  -- so every history of the run of a group does
  pub histories_keep_law : (result : Result (Run T Comparing × Slip OfGroup T) RunFault) → Opens lowest highest declared lo hi rank result →
      HistoriesKeepLaw before sample place lowest highest declared lo hi rank result
  histories_keep_law (Err fault) opens = tt
  histories_keep_law (Ok run) opens = law_from_opening run opens

  -- from the result's place a seat rebuilds one list of verdicts
  one_rebuild : OneRebuild (protocol group)
  one_rebuild number xs x vs ws one other = (one_search (verdict_knowing (place x)) one.1 other.1).0

  -- so histories of runs opened alike tell a seat the same
  pub histories_tell_the_same : (result : Result (Run T Comparing × Slip OfGroup T) RunFault) → Opens lowest highest declared lo hi rank result →
      HistoriesTellTheSame before sample place lowest highest declared lo hi rank result
  histories_tell_the_same (Err fault) opens = tt
  histories_tell_the_same (Ok run) opens = λ other opens_too trace other_trace now other_now h other_h.
      tells_the_same (protocol group) one_rebuild trace other_trace (law_from_opening run opens trace now h).0
      (law_from_opening other opens_too other_trace other_now other_h).0
