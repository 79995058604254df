-- The places of delays.
use Rattle.std.specs.Prelude.{◌-◌, ◌^◌, refl}
use Rattle.std.proofs.Common.{arith}
use Rattle.elements.specs.Orders.{IsOrder, OneElementEach}
use Rattle.elements.specs.declared.delay.Delay.{Delay}
use Rattle.elements.specs.Alike.{delay_alike}
use Rattle.elements.specs.ByPlaces.{order_by_places}
use Rattle.elements.specs.Delays.{delay_before}

pub delays_order : IsOrder delay_before
delays_order = order_by_places delay_before (λ x. x.micros) (λ x y. refl) delay_alike

-- every number of 32 bits is the place of one delay
pub delays_complete : OneElementEach {E = Delay} (λ x. x.micros) 0 (2 ^ 32 - 1)
delays_complete n p q = let x : Delay = record { micros = n; fits = omega arith } in (x, refl, λ y e. delay_alike y x e)
