-- The true answer to each question.
use Rattle.std.specs.Prelude.{Bool}
use Rattle.elements.specs.Entries.{lesser_entry}
use Rattle.referees.specs.Verdicts.{first_of, weight_of_sums}
use Rattle.referees.specs.declared.question.Question.{Question}
use Rattle.referees.specs.declared.question.Question.TheVariants as Q
use Rattle.referees.specs.declared.question.Answer.{Answer}
use Rattle.referees.specs.declared.question.Answer.TheVariants as A

abbrev pub truth_of : {E : Type 0} → (E → E → Bool) → Question E → Answer E
truth_of before (Q.First a b) = A.First (first_of before a b)
truth_of before (Q.Lesser a b) = A.Lesser (lesser_entry before a b)
truth_of before (Q.Weigh s) = A.Weigh (weight_of_sums s)
