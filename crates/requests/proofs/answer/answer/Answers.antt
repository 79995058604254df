use Rattle.std.proofs.Common.{Ok, Err, inr, rules, refl}
use Rattle.referees.specs.PlainStock.{plain_stock}
use Rattle.requests.proofs.FewVerdicts.{few_verdicts}
use Rattle.requests.proofs.RoomFacts.{room_suffices}
use Rattle.requests.proofs.RunsOfLists.{play_answers}
use Rattle.requests.proofs.answer.answer.Goals as goal

pub returns-in_err-of_b-clause-answers : goal.returns-in_err-of_b-clause-answers
returns-in_err-of_b-clause-answers c =
    let parts = c.in-Some.ensures in
    inr (
      parts.0,
      (
        Ok c.in_ok-of_a.of_a,
        rw parts.2 at c.in_ok-of_a.ensures.reads,
        (Err c.in_err-of_b.field-0.0, rw parts.3 at c.in_err-of_b.ensures.reads, (search rules, refl {a = c.args.log.now})),
      ),
    )

pub returns-in_err-of_b-clause-room : goal.returns-in_err-of_b-clause-room
returns-in_err-of_b-clause-room c = room_suffices _ _ _ _ (returns-in_err-of_b-clause-answers c)

pub returns-clause-answers : goal.returns-clause-answers
returns-clause-answers c =
    let parts = c.in-Some.ensures in
    inr (
      parts.0,
      (
        Ok c.in_ok-of_a.of_a,
        rw parts.2 at c.in_ok-of_a.ensures.reads,
        (
          Ok c.in_ok-of_b.of_b,
          rw parts.3 at c.in_ok-of_b.ensures.reads,
          play_answers c.args.bytes.now (record { a = c.args.a.now; b = c.args.b.now; log = c.args.log.now }) (record { a = c.read_for.new.list; b = c.read_for-2.new.list; log = c.find_rank.new.log }) _ _ (plain_stock c.find_rank.new.referee) c.find_rank.result
              c.in_ok-of_a.ensures.unrefused c.in_ok-of_b.ensures.unrefused (rw (c.new.ensures, parts.1) at c.find_rank.ensures.plays) (rw (c.new.ensures, parts.1) at c.find_rank.ensures.notes),
        ),
      ),
    )

pub returns-clause-room : goal.returns-clause-room
returns-clause-room c = room_suffices _ _ _ _ (returns-clause-answers c)

pub returns-clause-log : goal.returns-clause-log
returns-clause-log c = few_verdicts _ _ c.in-Some.request.rank _ _ _ c.if-prove.false c.find_rank.result c.find_rank.ensures.plays
