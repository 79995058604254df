-- Windows that are halved by one verdict after another are those of the bisection.
use Rattle.std.proofs.Common.{◌≡◌, ℕ, zero, suc, ◌+◌, ◌-◌, ◌*◌, ◌/◌, ◌^◌, Bool, true, false, cond, List, [], ◌∷◌, length, refl, ap, ◌∙◌, arith}
use Rattle.pair.specs.Rows.{halvings}
use Rattle.pair.specs.Bisection.{half, moves, moved, offset_after}
use Rattle.pair.specs.declared.side.Side.{Side}
use Rattle.pair.proofs.Logarithms.{half_of_power}
use Rattle.referees.specs.declared.verdict.PairVerdict.{PairVerdict}
use Rattle.pair.specs.WindowLaws.{HalvedBy, by_none, by_first, WindowsFollowVerdicts}
use Rattle.pair.specs.HalvedWindow.{offset_of}
use Rattle.pair.specs.declared.window.Window.{Window}

-- a window of size 1 stays where it is
stays : (up : Bool) (offset : ℕ) → offset + cond up 0 0 ≡ offset
stays true offset = omega arith
stays false offset = omega arith

-- past size 1 verdicts move no offset
past_one : (side : Side) (offset : ℕ) (verdicts : List PairVerdict) → offset_after side offset 0 verdicts ≡ offset
past_one side offset [] = refl
past_one side offset (verdict ∷ later) = refl

-- from a window of size 2 ^ j on
follow : (j : ℕ) {old new : Window} {verdicts : List PairVerdict} → HalvedBy old verdicts new → old.size ≡ 2 ^ j →
    ((side : Side) → offset_of side new ≡ offset_after side (offset_of side old) j verdicts) × (new.size ≡ 2 ^ (j - length verdicts))
follow j by_none size = ((λ side. refl), size ∙ ap (λ (i : ℕ). 2 ^ i) (let all : j ≡ j - 0 = omega arith in all))
follow zero (by_first {old = old} {next = next} {verdict = verdict} {later = verdicts} h later) size =
    let rest = follow zero later (h.size_is ∙ omega arith) in
    let step : old.size / 2 ≡ 0 = omega arith in (
      (λ side.
          let at : offset_of side next ≡ offset_of side old
          = h.offsets side ∙ ap (λ (s : ℕ). moved side verdict s (offset_of side old)) step ∙ stays (moves side verdict) (offset_of side old) in
          rest.0 side ∙ past_one side (offset_of side next) verdicts ∙ at),
      rest.1 ∙ ap (λ (i : ℕ). 2 ^ i) (let left : 0 - length verdicts ≡ 0 - length (verdict ∷ verdicts) = omega arith in left),
    )
follow (suc j) (by_first {old = old} {next = next} {verdict = verdict} {later = verdicts} h later) size =
    let double : 2 ^ suc j ≡ 2 * 2 ^ j = omega arith in
    let step : old.size / 2 ≡ 2 ^ j = omega arith in
    let rest = follow j later (h.size_is ∙ ap half size ∙ half_of_power j) in (
      (λ side.
          let at : offset_of side next ≡ moved side verdict (2 ^ j) (offset_of side old)
          = h.offsets side ∙ ap (λ (s : ℕ). moved side verdict s (offset_of side old)) step in
          rest.0 side ∙ ap (λ (offset : ℕ). offset_after side offset j verdicts) at),
      rest.1 ∙ ap (λ (i : ℕ). 2 ^ i) (let left : j - length verdicts ≡ suc j - length (verdict ∷ verdicts) = omega arith in left),
    )

-- windows follow the verdicts of the bisection
pub windows_follow_verdicts : WindowsFollowVerdicts
windows_follow_verdicts rank whole window verdicts w h =
    let f = follow (halvings rank) h w.all in
    record {
      offsets = λ side. f.0 side ∙ ap (λ (offset : ℕ). offset_after side offset (halvings rank) verdicts) (w.at_start side);
      size = f.1;
    }
