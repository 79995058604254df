-- Sequences of questions to one referee, written down line by line.
use Rattle.std.specs.Prelude.{◌≡◌, ℕ, suc, ◌+◌, ◌-◌, ◌<◌, min, Bool, true, false, cond, List, length, get_or, nat_lt, slice_index_or, Option, Some, None, Result, Ok, Err}
use Rattle.faults.specs.declared.fault.RunFault.{RunFault}
use Rattle.referees.specs.Questions.{out_of_stock}
use Rattle.elements.specs.Limits.{saturated}
use Rattle.referees.specs.declared.question.Question.{Question}
use Rattle.referees.specs.declared.play.Line.{Line}
use Rattle.referees.specs.declared.play.Tally.{Tally}
use Rattle.referees.specs.declared.question.Answer.{Answer}
use Rattle.referees.specs.Truths.{truth_of}

abbrev pub new_line : {E : Type 0} → Question E → Line E
new_line question = record { question = question; outcome = None; left = 0 }

abbrev pub answered_outcome : {E : Type 0} → Option (Result (Answer E) RunFault) → Bool
answered_outcome None = false
answered_outcome (Some (Ok answer)) = true
answered_outcome (Some (Err fault)) = false

-- The line that a question comes to which is number i, counted from 0, in a play begun at a stock: answered truly
-- while the stock lasts and refused from then on. `left` tells what remains after it.
abbrev pub line_at : {E : Type 0} → (E → E → Bool) → ℕ → ℕ → Question E → Line E
line_at before stock i question =
    record { question = question; outcome = Some (cond (nat_lt i stock) (Ok (truth_of before question)) (Err out_of_stock)); left = saturated (stock - (i + 1)) }

-- Lines that were old and are new, played from first to last against a referee that had stock_before and has stock_after:
-- as many are answered as the stock allows, and each answer costs one question.
pub record Played {E : Type 0} (before : E → E → Bool) (stock_before stock_after : ℕ) (old new : List (Line E)) (tally : Tally) : Type 0 where
  pub as_many_lines : length new ≡ length old
  pub lines : (i : ℕ) (d : Line E) → i < length old → slice_index_or new i d ≡ line_at before stock_before i (get_or old i d).question
  pub answered : tally.answered ≡ min stock_before (length old)
  pub one_each : stock_before ≡ stock_after + tally.answered
  pub left : tally.left ≡ saturated stock_after

-- What became of a referee that was old and is new by a line with this outcome: an answered question is paid for as the
-- referee says, and one that is refused leaves the referee as it was.
abbrev pub PaidFor : {R E : Type 0} → (R → R → Type 0) → R → R → Option (Result (Answer E) RunFault) → Type 0
PaidFor spends old new None = new ≡ old
PaidFor spends old new (Some (Ok answer)) = spends old new
PaidFor spends old new (Some (Err fault)) = new ≡ old

-- From a referee that was old to what it is now, by so many answered questions and nothing else, each paid for as the referee
-- says. So it is known of each question in its turn which part of a pile pays.
pub data SpendsEach {R : Type 0} (spends : R → R → Type 0) (old : R) : (answered : ℕ) → (new : R) → Type 0 where
  nothing_asked : SpendsEach spends old 0 old
  one_more : {n : ℕ} {between new : R} → SpendsEach spends old n between → spends between new → SpendsEach spends old (suc n) new

-- a play against a referee that is put together with a stock and is gone afterwards
abbrev pub PlayedFrom : {E : Type 0} → (E → E → Bool) → ℕ → List (Line E) → List (Line E) → Tally → Type 0
PlayedFrom before stock old new tally = Played before stock (stock - length old) old new tally
