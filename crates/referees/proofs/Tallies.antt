-- A play whose referee's stock is known as a number.
use Rattle.std.proofs.Common.{◌≡◌, ℕ, ◌+◌, ◌-◌, min, Bool, List, length, get_or, ap, ◌∙◌, arith}
use Rattle.elements.specs.Limits.{saturated}
use Rattle.referees.specs.declared.play.Line.{Line}
use Rattle.referees.specs.declared.play.Tally.{Tally}
use Rattle.referees.specs.Plays.{Played, PlayedFrom, line_at}

pub played_from : {E : Type 0} (before : E → E → Bool) (stock was is : ℕ) (old new : List (Line E)) (tally : Tally) → was ≡ stock →
    Played before was is old new tally → PlayedFrom before stock old new tally
played_from before stock was is old new tally e p =
    let after : is ≡ stock - length old = omega (arith, p.answered, p.one_each) in
    record {
      as_many_lines = p.as_many_lines;
      lines = λ i d h. p.lines i d h ∙ ap (λ (s : ℕ). line_at before s i (get_or old i d).question) e;
      answered = omega (arith, p.answered);
      one_each = omega (arith, p.one_each);
      left = p.left ∙ ap saturated after;
    }

-- the stock of a pile is the same whichever of its two referees is used first
pub in_either_order : (whole a b : ℕ) → min whole (a + b) ≡ min whole (b + a)
in_either_order whole a b = omega arith
