-- Entries are in an order, with the marks at its ends.
use Rattle.std.proofs.Common.{◌≡◌, Bool, false, refl}
use Rattle.elements.specs.Orders.{IsOrder}
use Rattle.elements.specs.Entries.{entry_before}
use Rattle.elements.specs.EntryLaws.{entries_trichotomy, entries_transitive}
use Rattle.elements.specs.declared.entry.Entry.{Entry}
use Rattle.elements.specs.declared.entry.Entry.TheVariants.{Below, Element, Above}

-- the order of entries is one, if that of the elements is
pub entry_order : {E : Type 0} {before : E → E → Bool} → IsOrder before → IsOrder (entry_before before)
entry_order {E} {before} o =
    record { trichotomy = entries_trichotomy before o.trichotomy; transitive = entries_transitive before o.transitive }

module _ {E : Type 0} (before : E → E → Bool) where
  -- no entry is before a mark below every element
  pub none_before_below : (e : Entry E) → entry_before before e Below ≡ false
  none_before_below Below = refl
  none_before_below (Element x) = refl
  none_before_below Above = refl

  -- no entry is after a mark above every element
  pub none_after_above : (e : Entry E) → entry_before before Above e ≡ false
  none_after_above Below = refl
  none_after_above (Element x) = refl
  none_after_above Above = refl
