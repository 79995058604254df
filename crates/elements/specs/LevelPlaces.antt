-- The places of link levels.
use Rattle.std.specs.Prelude.{◌≡◌, ℕ, ◌+◌, ◌-◌, ◌*◌, ◌/◌, ◌%◌, ◌^◌, ◌<◌, ℤ, pos, negsuc, ◌+ℤ◌, ◌≤ℤ◌, unsigned_abs}
use Rattle.std.proofs.Common.{sym, ap, ◌∙◌, arith}
use Rattle.std.proofs.lemmas.Bool.Decides.{nat_tests}
use Rattle.std.proofs.lemmas.Int.{ints}
use Rattle.std.specs.Ordering.{nat_cmp}
use Rattle.elements.specs.Orders.{IsOrder, PlacesAgree, OneElementEach}
use Rattle.elements.specs.ByPlaces.{order_by_places}
use Rattle.elements.specs.LinkLevels.{level_before, level_cmp, level_place}
use Rattle.elements.specs.declared.link_level.LinkLevel.{LinkLevel}
use Rattle.elements.specs.Alike.{made, level_alike}

-- a level raised by 2^31 is a number of 32 bits
raised : (x : LinkLevel) → (unsigned_abs (x.level +ℤ pos (2 ^ 31)) < 2 ^ 32) × (pos (unsigned_abs (x.level +ℤ pos (2 ^ 31))) ≡ x.level +ℤ pos (2 ^ 31))
raised x = let l = x.low in let h = x.high in (omega (arith, ints), omega (arith, ints))

-- the order is that of the places
pub level_agrees : PlacesAgree level_before level_place
level_agrees x y = let a = raised x in let b = raised y in grind (arith, ints, nat_tests)

-- places compare as link levels do
pub places_compare : (x y : LinkLevel) → nat_cmp (level_place x) (level_place y) ≡ level_cmp x y
places_compare x y = let a = raised x in let b = raised y in grind (arith, ints, nat_tests)

-- no two link levels have one place
pub level_apart : (x y : LinkLevel) → level_place x ≡ level_place y → x ≡ y
level_apart x y e =
    let a = raised x in let b = raised y in let f = x.fits in let g = y.fits in
    level_alike x y (omega (arith, ints)) (omega (arith, ints))

pub levels_order : IsOrder level_before
levels_order = order_by_places level_before level_place level_agrees level_apart

-- every number of 64 bits is a place
pub level_at : (n : ℕ) → n < 2 ^ 64 → (x : LinkLevel) × (level_place x ≡ n)
level_at n h =
    let a : ℤ = pos (n / 2 ^ 32) +ℤ negsuc (2 ^ 31 - 1) in
    let p : negsuc (2 ^ 31 - 1) ≤ℤ a = omega (arith, ints) in
    let q : a ≤ℤ pos (2 ^ 31 - 1) = omega (arith, ints) in
    let r : n % 2 ^ 32 < 2 ^ 32 = omega arith in
    let e : unsigned_abs (a +ℤ pos (2 ^ 31)) ≡ n / 2 ^ 32 = omega (arith, ints) in
    (made a (n % 2 ^ 32) p q r, ap (λ k. k * 2 ^ 32 + n % 2 ^ 32) e ∙ omega arith)

-- each is the place of one link level
pub levels_complete : OneElementEach level_place 0 (2 ^ 64 - 1)
levels_complete n p q = let x = level_at n (omega arith) in (x.0, x.1, λ y e. level_apart y x.0 (e ∙ sym x.1))
