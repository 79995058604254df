-- How a line of a play is printed, byte by byte.
use Rattle.std.specs.Prelude.{ℕ, List, Option, Some, None, Result, Ok, Err, codes, decimal}
use Rattle.std.specs.Fmt.{option_append}
use Rattle.faults.specs.FaultInfos.{run_info}
use Rattle.faults.specs.Printing.{fault_line}
use Rattle.referees.specs.Printing.{question_text, answer_text}
use Rattle.faults.specs.declared.fault.RunFault.{RunFault}
use Rattle.referees.specs.declared.question.Answer.{Answer}
use Rattle.referees.specs.declared.play.Line.{Line}

module _ {E : Type 0} (printed : E → Option (List ℕ)) where
  abbrev pub outcome_text : Option (Result (Answer E) RunFault) → Option (List ℕ)
  outcome_text None = Some (codes "not asked")
  outcome_text (Some (Ok answer)) = answer_text printed answer
  outcome_text (Some (Err fault)) = Some (fault_line (run_info fault))

  -- as first 12, above: 1, left 4
  abbrev pub line_text : Line E → Option (List ℕ)
  line_text l =
      option_append (question_text printed l.question) (option_append (Some (codes ": ")) (option_append (outcome_text l.outcome) (option_append (Some (codes ", left ")) (Some (decimal l.left)))))
