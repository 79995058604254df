use Rattle.std.proofs.Common.{rules, ◌≡◌, take, Ok, refl}
use Rattle.rankunit_c.specs.Outcomes.{outcome_of}
use Rattle.rankunit_c.specs.Verdicts.{bits}
use Rattle.rankunit_c.proofs.VerdictBits.{tells_each}
use Rattle.rankunit_c.proofs.outcome.rankunit_answer_request.Goals as goal

pub returns-in-Ok : goal.returns-in-Ok
returns-in-Ok c =
    let noted = c.answer.new.log in
    let finished = c.in-Ok.finished in
    let numbers : c.found.result ≡ outcome_of (Ok finished) noted = search rules in
    record {
      log = _;
      noted = noted;
      places = search rules;
      came = Ok finished;
      answers = c.in-Ok.ensures.answers;
      room = c.in-Ok.ensures.room;
      all_noted = c.in-Ok.ensures.log;
      numbers = numbers;
      few = search rules;
      tells = rw numbers (tells_each (take finished.count noted) (bits (take finished.count noted)) refl);
    }
