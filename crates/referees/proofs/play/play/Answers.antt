use Rattle.std.proofs.Common.{arith, rules}
use Rattle.referees.specs.Plays.{nothing_asked}
use Rattle.referees.proofs.Turns.{turn, answered_below, refused_from, spends_once_more, spends_no_more, none_spent}
use Rattle.referees.proofs.play.play.Goals as goal
use Rattle.referees.proofs.play.play.Goals.{then-is_answered, else-is_answered}

pub loop-line-init : goal.loop-line-init
loop-line-init g c = record { played = search rules; answered = search rules; paid = search rules; spends = nothing_asked }

pub loop-line-preserved : goal.loop-line-preserved
loop-line-preserved g c =
    let inv = c.loop-line.invariant in
    let line = c.ask_line.ensures.line in record {
      played = turn _ _ _ _ _ _ _ _ (omega arith) inv.played inv.paid line;
      answered = elim c.if-is_answered.branch [
        | then-is_answered w ↦ omega (arith, answered_below _ _ _ _ _ _ inv.paid line w.if-is_answered.ensures, w.answered-is, inv.answered)
        | else-is_answered w ↦ omega (arith, refused_from _ _ _ _ _ _ inv.paid line w.if-is_answered.ensures, w.answered-is, inv.answered)
      ];
      paid = omega (arith, inv.paid, c.ask_line.ensures.cost);
      spends = elim c.if-is_answered.branch [
        | then-is_answered w ↦ spends_once_more _ _ inv.spends c.ask_line.ensures.spends w.if-is_answered.ensures w.answered-is
        | else-is_answered w ↦ spends_no_more _ _ inv.spends c.ask_line.ensures.spends w.if-is_answered.ensures w.answered-is
      ];
    }

pub returns-clause-empty_stays : goal.returns-clause-empty_stays
returns-clause-empty_stays g c = λ empty.
    let inv = c.loop-line.invariant in
    none_spent inv.spends (omega (arith, inv.answered, empty))
