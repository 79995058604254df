-- An element type of a user's own: numbers of hops, of which more come first, on sheets of kind 9; and a fault of a user's own.
use Rattle.std.specs.Prelude.{◌≡◌, ℕ, ◌^◌, ◌<◌, Bool, nat_lt, Some, None}
use Rattle.std.proofs.Common.{subst, sym, ap, lit<}
use Rattle.std.proofs.Math.Bridge.{le_prop}
use Rattle.elements.specs.Orders.{IsOrder}
use Rattle.elements.specs.ByPlaces.{numbers_transitive, numbers_trichotomy}
use Rattle.sheets.specs.Layouts.{Format, big_endian}
use Rattle.faults.specs.declared.fault_info.Notice.{Notice}
use Rattle.faults.specs.declared.fault_info.Layer.TheVariants.{Run}
use Rattle.examples.specs.declared.own_type.Hops.{Hops}
use Rattle.examples.specs.declared.own_type.TooManyHops.{TooManyHops}

-- more hops are before fewer
abbrev pub hops_before : Hops → Hops → Bool
hops_before x y = nat_lt y.number x.number

abbrev pub no_hops : Hops
no_hops = record { number = 0; fits = lit< tt }

abbrev pub hops_format : Format Hops
hops_format = record { kind = 9; width = 4; coded = λ x. big_endian 4 x.number }

pub hops_alike : (x y : Hops) → x.number ≡ y.number → x ≡ y
hops_alike x y e =
    let P : ℕ → Type 0 = λ n. (q : n < 2 ^ 32) → x ≡ record { number = n; fits = q } in
    subst P e (λ q i. record { number = x.number; fits = le_prop x.fits q i }) y.fits

pub hops_order : IsOrder hops_before
hops_order = record {
  trichotomy = λ x y. numbers_trichotomy y.number x.number (x ≡ y) (λ e. hops_alike x y (sym e)) (λ e. sym (ap (λ (h : Hops). h.number) e));
  transitive = λ x y z p q. numbers_transitive z.number y.number x.number q p;
}

abbrev pub too_many_hops : TooManyHops → Notice
too_many_hops x = record { number = 99; layer = Run; seat = None; spot = Some x.hops.number }
