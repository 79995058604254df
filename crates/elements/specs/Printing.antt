-- How elements are printed: a delay as its microseconds, a link level as the level and the link. An entry is printed as
-- its element, or as its mark.
use Rattle.std.specs.Prelude.{ℕ, List, ◌++◌, Some, codes, decimal, Option}
use Rattle.std.specs.Fmt.{signed_decimal}
use Rattle.elements.specs.declared.delay.Delay.{Delay}
use Rattle.elements.specs.declared.entry.Entry.{Entry}
use Rattle.elements.specs.declared.entry.Entry.TheVariants.{Below, Element, Above}
use Rattle.elements.specs.declared.link_level.LinkLevel.{LinkLevel}

abbrev pub delay_text : Delay → List ℕ
delay_text x = decimal x.micros

abbrev pub level_text : LinkLevel → List ℕ
level_text x = signed_decimal x.level ++ (codes " link " ++ decimal x.link)

abbrev pub entry_text : {E : Type 0} → (E → Option (List ℕ)) → Entry E → Option (List ℕ)
entry_text printed Below = Some (codes "below")
entry_text printed (Element x) = printed x
entry_text printed Above = Some (codes "above")
