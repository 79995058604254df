use Rattle.std.proofs.Common.{◌≡◌, ◌/◌, refl}
use Rattle.pair.proofs.BisectionSteps.{both_sides}
use Rattle.pair.specs.Bisection.{by_side, moved}
use Rattle.pair.specs.declared.side.Side.TheVariants.{A}
use Rattle.pair.specs.HalvedWindow.{offset_of}
use Rattle.pair.specs.SeatStates.{new_seat, seat_after, state_of_side}
use Rattle.referees.specs.declared.verdict.PairVerdict.TheVariants.{NotBefore}
use Rattle.examples.specs.Cases.{opened_for_4, both_reported, after_0}
use Rattle.examples.proofs.worked.every_case_holds.Goals as goal

pub returns : goal.returns
returns c = record {
  table = refl;
  runs = record {
    opened = record {
      window = record { rank_is = refl; at_start = λ side. both_sides (λ s. offset_of s opened_for_4.window ≡ 0) A refl refl side; all = refl };
      made = refl;
      seats = λ side. both_sides (λ s. state_of_side s opened_for_4 ≡ new_seat (by_side 3 3 s)) A refl refl side;
    };
    moved = record {
      window = record {
        same_rank = refl;
        offsets = λ side.
            both_sides (λ s. offset_of s after_0.window ≡ moved s NotBefore (both_reported.window.size / 2) (offset_of s both_reported.window)) A refl refl side;
        size_is = refl;
      };
      made = refl;
      seats = λ side. both_sides (λ s. state_of_side s after_0 ≡ seat_after s NotBefore (state_of_side s both_reported)) A refl refl side;
    };
  };
}
