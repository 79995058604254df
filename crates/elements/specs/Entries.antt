-- The order of entries.
use Rattle.std.specs.Prelude.{◌≡◌, Bool, true, false, cond}
use Rattle.elements.specs.declared.entry.Entry.{Entry}
use Rattle.elements.specs.declared.entry.Entry.TheVariants.{Below, Element, Above}

abbrev pub entry_before : {E : Type 0} → (E → E → Bool) → Entry E → Entry E → Bool
entry_before before Below Below = false
entry_before before Below (Element y) = true
entry_before before Below Above = true
entry_before before (Element x) Below = false
entry_before before (Element x) (Element y) = before x y
entry_before before (Element x) Above = true
entry_before before Above Below = false
entry_before before Above (Element y) = false
entry_before before Above Above = false

abbrev pub lesser_entry : {E : Type 0} → (E → E → Bool) → Entry E → Entry E → Entry E
lesser_entry before a b = cond (entry_before before a b) a b

-- every element stands after below and before above
pub record MarksOutside {E : Type 0} (before : Entry E → Entry E → Bool) : Type 0 where
  pub below_first : (x : E) → before Below (Element x) ≡ true
  pub above_last : (x : E) → before (Element x) Above ≡ true
  pub below_above : before Below Above ≡ true
