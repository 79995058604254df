-- The play stands between rounds as honest seats leave it, and comes to what is promised at its end.
use Rattle.std.proofs.Common.{rules, ◌≡◌, ◌+◌, Err, Result, sym, refl, ap, subst, arith}
use Rattle.elements.specs.Orders.{IsOrder}
use Rattle.faults.specs.declared.fault.RunFault.{RunFault}
use Rattle.runs.specs.Finishes.{Outcome}
use Rattle.pair.specs.PairCalls.{progress_of}
use Rattle.pair.specs.declared.run.StagedRun.{StagedRun}
use Rattle.seats.specs.HonestRuns.{IsHonestRun}
use Rattle.pair.specs.Bisection.{by_side}
use Rattle.seats.proofs.Faults.{fault_of_round, fault_of_last}
use Rattle.seats.proofs.NotedVerdicts.{noted_so_far, counts_verdicts}
use Rattle.referees.specs.Plays.{nothing_asked}
use Rattle.seats.proofs.AskedInTurn.{asked_once_more, asked_as_many}
use Rattle.seats.proofs.Openings.{run_opened, play_unopened}
use Rattle.seats.proofs.Results.{finds_after_finish}
use Rattle.seats.proofs.HonestRunStands.{stands_at_start, few_verdicts, stands_where}
use Rattle.seats.proofs.Verdicts.{stands_after_verdict, window_falls}
use Rattle.seats.proofs.honest_run.find_rank.Goals as goal

pub returns-in_err-stage-clause-plays : goal.returns-in_err-stage-clause-plays
returns-in_err-stage-clause-plays g c =
    let order : IsOrder g.T.Ordered.before = g.met.T.Ordered.law in
    let lists = by_side c.args.a.now c.args.b.now in
    let stock = g.R.Stocked.stock c.args.referee.now in
    let fault = c.in_err-stage.field-0.0 in
    let is : c.from_residual.result ≡ Err fault = search rules in
    subst (λ (r : Result (Outcome g.row.T.Denot) RunFault). IsHonestRun g.T.Ordered.before lists c.args.rank stock stock r) (sym is)
    (play_unopened lists c.declared.result c.declared-2.result c.declared.ensures c.declared-2.ensures c.args.rank order stock fault
    c.in_err-stage.ensures.opens)

pub loop-stage-init : goal.loop-stage-init
loop-stage-init g c =
    let order : IsOrder g.T.Ordered.before = g.met.T.Ordered.law in
    let opened = run_opened (by_side c.args.a.now c.args.b.now) c.declared.result c.declared-2.result c.declared.ensures c.declared-2.ensures
    c.args.rank order c.in_ok-stage.stage c.in_ok-stage.slip c.in_ok-stage.ensures.opens c.in_ok-stage.ensures.lawful in
    record {
      stands = stands_at_start opened (g.R.Stocked.stock c.args.referee.now) c.args.log.now;
      asked = nothing_asked;
    }

pub overflow_add-made : goal.overflow_add-made
overflow_add-made g c = omega (arith, few_verdicts {lists = by_side c.args.a.now c.args.b.now} c.loop-stage.invariant.stands)

pub loop-stage-smaller : goal.loop-stage-smaller
loop-stage-smaller g c =
    let stands = stands_where {lists = by_side c.args.a.now c.args.b.now} c.in-Comparing.is c.loop-stage.invariant.stands in
    let size = ap (λ (s : StagedRun g.row.T.Denot). (progress_of s).window.size) c.in-Comparing.is in
    omega (arith, size, window_falls stands c.in-Ok.field-0 c.in-Ok.ensures.round)

pub loop-stage-preserved : goal.loop-stage-preserved
loop-stage-preserved g c =
    let stands = stands_where {lists = by_side c.args.a.now c.args.b.now} c.in-Comparing.is c.loop-stage.invariant.stands in
    record {
      stands = stands_after_verdict stands c.in-Ok.field-0 (g.R.Stocked.stock c.compare.new.referee) c.in-Ok.ensures.asks.0
          c.note.ensures c.in-Ok.ensures.round;
      asked = asked_once_more g.R.Referee.spends c.loop-stage.made c.args.referee.now c.loop-stage.invariant.asked c.in-Ok.ensures.asks.1;
    }

pub returns-in-Err-clause-plays : goal.returns-in-Err-clause-plays
returns-in-Err-clause-plays g c =
    let stands = stands_where {lists = by_side c.args.a.now c.args.b.now} c.in-Comparing.is c.loop-stage.invariant.stands in
    fault_of_round (ap g.R.Stocked.stock c.in-Err.ensures.asks) c.in-Err.field-0 stands c.in-Err.ensures.round

pub returns-in-Ok-close-clause-plays : goal.returns-in-Ok-close-clause-plays
returns-in-Ok-close-clause-plays g c =
    let stands = stands_where {lists = by_side c.args.a.now c.args.b.now} c.in-Closing.is c.loop-stage.invariant.stands in
    finds_after_finish stands c.in_ok-stage.slip c.in-Ok-close.finished (g.R.Stocked.stock c.close.new.referee) c.in-Ok-close.ensures.asks.0
    c.in-Ok-close.ensures.round

pub returns-in-Err-close-clause-plays : goal.returns-in-Err-close-clause-plays
returns-in-Err-close-clause-plays g c =
    let stands = stands_where {lists = by_side c.args.a.now c.args.b.now} c.in-Closing.is c.loop-stage.invariant.stands in
    fault_of_last (ap g.R.Stocked.stock c.in-Err-close.ensures.asks) c.in-Err-close.field-0 stands c.in-Err-close.ensures.round

pub returns-in-Err-clause-notes : goal.returns-in-Err-clause-notes
returns-in-Err-clause-notes g c =
    let stands = c.loop-stage.invariant.stands in
    let same = ap g.R.Stocked.stock c.in-Err.ensures.asks in
    noted_so_far {lists = by_side c.args.a.now c.args.b.now} stands _ (omega (arith, same, stands.paid))

pub returns-in-Err-close-clause-notes : goal.returns-in-Err-close-clause-notes
returns-in-Err-close-clause-notes g c =
    let stands = c.loop-stage.invariant.stands in
    let same = ap g.R.Stocked.stock c.in-Err-close.ensures.asks in
    noted_so_far {lists = by_side c.args.a.now c.args.b.now} stands _ (omega (arith, same, stands.paid))

pub returns-in-Ok-close-clause-notes : goal.returns-in-Ok-close-clause-notes
returns-in-Ok-close-clause-notes g c =
    let lists = by_side c.args.a.now c.args.b.now in
    let stands = stands_where {lists = lists} c.in-Closing.is c.loop-stage.invariant.stands in
    let last = g.R.Stocked.stock c.close.new.referee in
    let plays = finds_after_finish stands c.in_ok-stage.slip c.in-Ok-close.finished last c.in-Ok-close.ensures.asks.0 c.in-Ok-close.ensures.round in
    noted_so_far {lists = lists} stands _
    (counts_verdicts g.T.Ordered.before lists c.args.rank (g.R.Stocked.stock c.args.referee.now) last c.in-Ok-close.finished plays c.loop-stage.made
    (g.R.Stocked.stock c.loop-stage.referee) stands.paid c.in-Ok-close.ensures.asks.0)

pub returns-in_err-stage-clause-asks : goal.returns-in_err-stage-clause-asks
returns-in_err-stage-clause-asks g c = asked_as_many g.R.Referee.spends 0 _ (omega arith) c.args.referee.now refl nothing_asked

pub returns-in-Err-clause-asks : goal.returns-in-Err-clause-asks
returns-in-Err-clause-asks g c =
    let same = ap g.R.Stocked.stock c.in-Err.ensures.asks in
    asked_as_many g.R.Referee.spends c.loop-stage.made _ (omega (arith, same, c.loop-stage.invariant.stands.paid)) c.args.referee.now c.in-Err.ensures.asks c.loop-stage.invariant.asked

pub returns-in-Err-close-clause-asks : goal.returns-in-Err-close-clause-asks
returns-in-Err-close-clause-asks g c =
    let same = ap g.R.Stocked.stock c.in-Err-close.ensures.asks in
    asked_as_many g.R.Referee.spends c.loop-stage.made _ (omega (arith, same, c.loop-stage.invariant.stands.paid)) c.args.referee.now c.in-Err-close.ensures.asks
    c.loop-stage.invariant.asked

pub returns-in-Ok-close-clause-asks : goal.returns-in-Ok-close-clause-asks
returns-in-Ok-close-clause-asks g c =
    let last = c.in-Ok-close.ensures.asks in
    asked_as_many g.R.Referee.spends (c.loop-stage.made + 1) _ (omega (arith, last.0, c.loop-stage.invariant.stands.paid)) c.args.referee.now refl
    (asked_once_more g.R.Referee.spends c.loop-stage.made c.args.referee.now c.loop-stage.invariant.asked last.1)
