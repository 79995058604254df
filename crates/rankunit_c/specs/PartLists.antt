-- The lists that parts of delays are.
use Rattle.std.specs.Prelude.{List}
use Rattle.rankunit.specs.Elements.declared.delay.Delay.{Delay}
use Rattle.rankunit_c.specs.Measures.{parts}
use Rattle.rankunit_c.specs.declared.parts.Parts.{Parts}

abbrev pub lists_of : Parts → List (List Delay)
lists_of p = parts p.number p.each p.delays.now
