-- The order of delays.
use Rattle.std.specs.Prelude.{Bool, nat_lt}
use Rattle.std.proofs.Common.{lit<}
use Rattle.elements.specs.declared.delay.Delay.{Delay}

-- by microseconds
abbrev pub delay_before : Delay → Delay → Bool
delay_before x y = nat_lt x.micros y.micros

abbrev pub delay_zero : Delay
delay_zero = record { micros = 0; fits = lit< tt }
