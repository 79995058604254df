-- The order of link levels, and their places.
use Rattle.std.specs.Prelude.{ℕ, ◌+◌, ◌*◌, ◌^◌, Bool, true, false, cond, pos, ◌+ℤ◌, int_lt, nat_lt, unsigned_abs}
use Rattle.std.specs.Ordering.{nat_cmp, int_cmp, on, then_cmp}
use Rattle.std.specs.declared.cmp.Ordering.{Ordering}
use Rattle.std.proofs.Common.{lit<}
use Rattle.elements.specs.declared.link_level.LinkLevel.{LinkLevel}

-- by level, then by link
abbrev pub level_before : LinkLevel → LinkLevel → Bool
level_before x y = cond (int_lt x.level y.level) true (cond (int_lt y.level x.level) false (nat_lt x.link y.link))

-- the same as an answer of three
abbrev pub level_cmp : LinkLevel → LinkLevel → Ordering
level_cmp = then_cmp (on (λ x. x.level) int_cmp) (on (λ x. x.link) nat_cmp)

-- (level + 2^31) * 2^32 + link
abbrev pub level_place : LinkLevel → ℕ
level_place x = unsigned_abs (x.level +ℤ pos (2 ^ 31)) * 2 ^ 32 + x.link

abbrev pub level_zero : LinkLevel
level_zero = record { level = pos 0; link = 0; low = record { le = tt }; high = record { le = tt }; fits = lit< tt }
