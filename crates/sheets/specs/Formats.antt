-- The bytes of delays and of link levels.
use Rattle.std.specs.Prelude.{ℕ, suc, ◌-◌, ◌^◌, List, ◌++◌, ℤ, pos, negsuc}
use Rattle.elements.specs.declared.delay.Delay.{Delay}
use Rattle.elements.specs.declared.link_level.LinkLevel.{LinkLevel}
use Rattle.sheets.specs.declared.kind.Kind.TheVariants.{Delays, LinkLevels}
use Rattle.sheets.specs.Kinds.{byte_of}
use Rattle.sheets.specs.Layouts.{Format, big_endian}

abbrev pub delay_bytes : Delay → List ℕ
delay_bytes x = big_endian 4 x.micros

abbrev pub delay_format : Format Delay
delay_format = record { kind = byte_of Delays; width = 4; coded = delay_bytes }

-- a signed number of 32 bits in two's complement; negsuc n is -(n + 1)
abbrev pub twos_complement : ℤ → ℕ
twos_complement (pos n) = n
twos_complement (negsuc n) = 2 ^ 32 - suc n

abbrev pub level_bytes : LinkLevel → List ℕ
level_bytes x = big_endian 4 (twos_complement x.level) ++ big_endian 4 x.link

abbrev pub level_format : Format LinkLevel
level_format = record { kind = byte_of LinkLevels; width = 8; coded = level_bytes }
