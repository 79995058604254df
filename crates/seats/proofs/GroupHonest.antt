-- A seat of a group that uses its own call reports what the law calls honest, and is never refused.
use Rattle.std.proofs.Common.{◌≡◌, ◌∙◌, ℕ, Bool, List, ◌∷◌, map, Ok, Result}
use Rattle.faults.specs.declared.fault.RunFault.{RunFault}
use Rattle.faults.specs.declared.seat.Seat.TheVariants.{Numbered}
use Rattle.runs.specs.HistoryLaw.{Honest, InTurn}
use Rattle.runs.specs.Traces.{reported, verdicts}
use Rattle.runs.specs.declared.slip.Slip.{Slip}
use Rattle.runs.specs.declared.stage.Comparing.{Comparing}
use Rattle.group.specs.SeatCounts.{below, above}
use Rattle.group.specs.declared.counts.Counts.{Counts}
use Rattle.group.specs.GroupCalls.{progress_of_run, limits_of, range_of, Reports}
use Rattle.group.specs.Histories.{History, GroupTrace, going, report}
use Rattle.group.specs.declared.progress.Progress.{Progress}
use Rattle.group.specs.declared.run.OfGroup.{OfGroup}
use Rattle.group.specs.declared.run.Run.{Run}
use Rattle.group.specs.declared.run.StagedRun.TheVariants.{Comparing as StillComparing}
use Rattle.group.specs.GroupHistoryLaw.{HistoriesKeepLaw, Shows}
use Rattle.group.specs.GroupProtocol.{group_protocol, honest}
use Rattle.seats.specs.SeatReports.{GroupReport, counts_at}
use Rattle.seats.specs.GroupSeatHonesty.{GroupSeatsAreHonest}
use Rattle.seats.proofs.GivenReports.{report_given}

module _ {T : Type 0} (before : T → T → Bool) (place : T → ℕ) (declared : List ℕ) (lo hi rank number : ℕ) (xs : List T) (counts : Counts) where
  -- a range whose target is the one that the law asks for is reported to honestly
  asked_is_honest : (trace : GroupTrace T) (progress : Progress) → Shows lo hi progress trace →
      GroupReport before place (limits_of progress) (range_of progress) number xs (Ok counts) →
      counts ≡ honest before place declared lo hi rank number xs (verdicts trace)
  asked_is_honest trace progress shows by_list =
      let given = report_given by_list.0 (Numbered number) (counts_at place (range_of progress) xs) counts by_list.2 in
      given ∙ (λ i. record { below = below (shows.target_is i) (map place xs); above = above (shows.target_is i) (map place xs) })

  -- an honest report in its turn is accepted, by the law of the history that it makes
  honest_accepted : (sample : T) (lowest highest : ℕ) (opened : Run T Comparing × Slip OfGroup T) →
      HistoriesKeepLaw before sample place lowest highest declared lo hi rank (Ok opened) →
      (trace : GroupTrace T) (run : Run T Comparing) → History place lowest highest sample opened.0 trace (going (StillComparing run)) →
      counts ≡ honest before place declared lo hi rank number xs (verdicts trace) → (answer : Result (Unit {0}) RunFault) (left : Run T Comparing) →
      Reports number counts (progress_of_run run) answer (progress_of_run left) → InTurn (group_protocol before place declared lo hi rank) number trace →
      Honest (group_protocol before place declared lo hi rank) number xs trace → answer ≡ Ok tt
  honest_accepted sample lowest highest opened lawful trace run history is_honest answer left reports turn seat =
      let next = report {run = run} {left = left} number counts answer history reports in
      let law = (lawful (reported number counts answer ∷ trace) (going (StillComparing left)) next).0 in
      (law.events.0.in_turn turn).honest_accepted xs seat is_honest

-- so a seat's call answers the honest report, and the run accepts it
pub group_seats_are_honest : {T : Type 0} (before : T → T → Bool) (sample : T) (place : T → ℕ) (lowest highest : ℕ) →
    GroupSeatsAreHonest before sample place lowest highest
group_seats_are_honest before sample place lowest highest declared lo hi rank opened lawful trace run history number xs counts by_list =
    let shows = (lawful trace (going (StillComparing run)) history).1 in
    let is_honest = asked_is_honest before place declared lo hi rank number xs counts trace (progress_of_run run) shows by_list in
    record {
      is_honest = is_honest;
      is_accepted =
          honest_accepted before place declared lo hi rank number xs counts sample lowest highest opened lawful trace run history is_honest;
    }
