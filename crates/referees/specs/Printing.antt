-- How a question and its answer are printed, byte by byte.
use Rattle.std.specs.Prelude.{ℕ, List, ◌++◌, Some, codes, Option}
use Rattle.std.specs.Fmt.{option_append}
use Rattle.elements.specs.Printing.{entry_text}
use Rattle.referees.specs.Verdicts.{pair_verdict_text, group_verdict_text, sums_text}
use Rattle.referees.specs.declared.question.Question.{Question}
use Rattle.referees.specs.declared.question.Question.TheVariants as Q
use Rattle.referees.specs.declared.question.Answer.{Answer}
use Rattle.referees.specs.declared.question.Answer.TheVariants as A

module _ {E : Type 0} (printed : E → Option (List ℕ)) where
  abbrev pub question_text : Question E → Option (List ℕ)
  question_text (Q.First a b) = option_append (Some (codes "first ")) (option_append (entry_text printed a) (option_append (Some (codes ", ")) (entry_text printed b)))
  question_text (Q.Lesser a b) = option_append (Some (codes "lesser ")) (option_append (entry_text printed a) (option_append (Some (codes ", ")) (entry_text printed b)))
  question_text (Q.Weigh s) = Some (codes "weigh " ++ sums_text s)

  abbrev pub answer_text : Answer E → Option (List ℕ)
  answer_text (A.First verdict) = Some (pair_verdict_text verdict)
  answer_text (A.Lesser entry) = entry_text printed entry
  answer_text (A.Weigh verdict) = Some (group_verdict_text verdict)
