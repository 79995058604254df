-- Honest seats in a history, and what the law says of them: their reports are accepted, and their lists explain them.
use Rattle.std.proofs.Common.{◌≡◌, ℕ, ◌≤◌, Bool, false, List, ◌∷◌, length, None, Ok, Result, arith}
use Rattle.elements.specs.Orders.{IsOrder}
use Rattle.faults.specs.declared.fault.RunFault.{RunFault}
use Rattle.pair.specs.Rows.{row, entry_at}
use Rattle.pair.specs.declared.side.Side.{Side}
use Rattle.runs.specs.HistoryLaw.{HistoryLaw, ExplainAll, Honest}
use Rattle.runs.specs.Traces.{reported, verdicts, has_reported, EachIs}
use Rattle.pair.specs.PairCalls.{Reports, IsOpened, opening_refusal, stage_of, progress_of, with_progress}
use Rattle.pair.specs.Histories.{History, Now, PairTrace, going, report}
use Rattle.pair.specs.declared.progress.Progress.{Progress}
use Rattle.pair.specs.declared.run.StagedRun.{StagedRun}
use Rattle.pair.specs.PairHistoryLaw.{ShowsNow}
use Rattle.pair.specs.PairProtocol.{pair_protocol, same_side, honest}
use Rattle.seats.specs.ListRefusals.{IsListRefusal}
use Rattle.seats.specs.SeatReports.{row_entry}
use Rattle.seats.specs.HonestRuns.{declared_lengths}
use Rattle.elements.specs.Limits.{saturated}
use Rattle.seats.proofs.Refusals.{unrefused_fits}

module _ {T : Type 0} (before : T → T → Bool) (sample : T) (lists : Side → List T) (k : ℕ) (start : StagedRun T) where
  -- what an accepted opening for these lists promises of the run that it hands out, where the elements are in order
  pub record Opened : Type 0 where
    pub order : IsOrder before
    pub allowed : opening_refusal (declared_lengths lists) k ≡ None
    pub staged : start ≡ stage_of (progress_of start)
    pub is_opened : IsOpened (declared_lengths lists) k (progress_of start)
    pub lawful : (trace : PairTrace T) (now : Now T) → History before sample start trace now →
        HistoryLaw (pair_protocol before (declared_lengths lists) k) trace × ShowsNow k now trace

  -- a history of that run, in which every accepted report is honest
  pub record HonestHistory (trace : PairTrace T) (now : Now T) : Type 0 where
    pub history : History before sample start trace now
    pub reports : (side : Side) → EachIs same_side (honest before (declared_lengths lists) k side (lists side)) side trace

-- the length of a short list is declared as it is
length_as_declared : {T : Type 0} (xs : List T) → length xs ≤ 65536 → length xs ≡ saturated (length xs)
length_as_declared xs short = omega arith

module _ {T : Type 0} {before : T → T → Bool} {sample : T} {lists : Side → List T} {k : ℕ} {start : StagedRun T} where
  -- a seat whose list is not refused is honest there
  pub honest_seat : {trace : PairTrace T} {now : Now T} (side : Side) → IsListRefusal before (lists side) None →
      HonestHistory before sample lists k start trace now → Honest (pair_protocol before (declared_lengths lists) k) side (lists side) trace
  honest_seat side unrefused h =
      let fits = unrefused_fits before (lists side) unrefused in
      record { fit = (length_as_declared (lists side) fits.1, fits.0); reports = h.reports side }

  module _ (opened : Opened before sample lists k start) where
    -- so both lists explain the reports, where neither is refused
    pub lists_explain : {trace : PairTrace T} {now : Now T} → ((side : Side) → IsListRefusal before (lists side) None) →
        HonestHistory before sample lists k start trace now → ExplainAll (pair_protocol before (declared_lengths lists) k) lists trace
    lists_explain {trace = trace} {now = now} unrefused h =
        let law = (opened.lawful trace now h.history).0 in
        record { one_a_seat = tt; each = λ side seated. law.own_list side seated (lists side) (honest_seat side (unrefused side) h) }

    module _ {past : PairTrace T} {stage : StagedRun T} (h : HonestHistory before sample lists k start past (going stage)) (side : Side) where
      -- the window asks a seat for what the law says, so that the entry that it reports is the honest one
      pub entry_is_honest :
          row_entry side (progress_of stage).window (lists side) ≡ honest before (declared_lengths lists) k side (lists side) (verdicts past)
      entry_is_honest =
          let shows = (opened.lawful past (going stage) h.history).1 in
          λ i. entry_at (row side (shows.rank i) (lists side)) (shows.places side i)

      -- and so, by the law, the run accepts it, where the list is not refused and the seat has not reported yet
      pub honest_accepted : (answer : Result (Unit {0}) RunFault) (left : Progress T) → has_reported same_side side past ≡ false →
          IsListRefusal before (lists side) None →
          Reports before side (row_entry side (progress_of stage).window (lists side)) (progress_of stage) answer left → answer ≡ Ok tt
      honest_accepted answer left not_yet unrefused r =
          let e = row_entry side (progress_of stage).window (lists side) in
          let next = report {stage = stage} side e answer left h.history r in
          let law = (opened.lawful (reported side e answer ∷ past) (going (with_progress left stage)) next).0 in
          (law.events.0.in_turn (record { seated = tt; not_yet = not_yet })).honest_accepted (lists side) (honest_seat side unrefused h)
          entry_is_honest
