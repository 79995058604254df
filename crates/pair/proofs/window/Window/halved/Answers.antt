use Rattle.std.proofs.Common.{ℕ, ap, sym, subst, arith}
use Rattle.std.specs.Int.{IsPowerOfTwo}
use Rattle.pair.proofs.Halvings.{half_is_power, both_halves}
use Rattle.pair.proofs.window.Window.halved.Goals as goal
use Rattle.pair.proofs.window.Window.halved.Goals.{in-Before, in-NotBefore}

pub invariant_of-result-clause-power : goal.invariant_of-result-clause-power
invariant_of-result-clause-power c = subst IsPowerOfTwo (sym c.half.ensures) (half_is_power c.args.self.size c.args.self.power)

pub invariant_of-result-clause-within : goal.invariant_of-result-clause-within
invariant_of-result-clause-within c =
    let whole = both_halves c.args.self.size c.args.self.power in
    let adds = c.args.self.within in
    let half_is = c.half.ensures in
    elim c.match-verdict.branch [
      | in-Before w ↦ omega (arith, ap (λ (p : ℕ × ℕ). p.0) w.up_a-is, ap (λ (p : ℕ × ℕ). p.1) w.up_a-is)
      | in-NotBefore w ↦ omega (arith, ap (λ (p : ℕ × ℕ). p.0) w.up_a-is, ap (λ (p : ℕ × ℕ). p.1) w.up_a-is)
    ]
