-- A list that was read from a sheet is one that a seat can report of.
use Rattle.std.proofs.Common.{◌≡◌, ℕ, ◌≤◌, Bool, false, List, ◌∷◌, [], length, take, drop, Some, None, Ok, Option, sym, refl, ap, ◌∙◌, subst}
use Rattle.std.proofs.lemmas.List.{take_at}
use Rattle.std.proofs.lemmas.Bool.{le-ltb}
use Rattle.elements.specs.Orders.{NeverFalls}
use Rattle.faults.specs.declared.refusal.Refusal.{Refusal}
use Rattle.faults.specs.declared.refusal.Refusal.TheVariants.{ListTooLong}
use Rattle.seats.proofs.Refusals.{not_both}
use Rattle.faults.specs.RefusalOrder.{check, first_check}
use Rattle.seats.specs.ListRefusals.{IsListRefusal, too_long}
use Rattle.sheets.specs.Layouts.{Format}
use Rattle.sheets.specs.Readings.{Reads}

module _ {E : Type 0} (before : E → E → Bool) where
  -- a list that never falls and is not too long is not refused
  unrefused : (xs : List E) → NeverFalls before xs → length xs ≤ 65536 → IsListRefusal before xs None
  unrefused xs never short =
      let fits : too_long xs ≡ false = le-ltb 65536 (length xs) short in
      (None, never, sym (ap (λ (b : Bool). first_check (check b ListTooLong ∷ [])) fits))

  -- so a list that was read is not refused
  pub read_unrefused : (f : Format E) (bytes : List ℕ) (old new : List E) (n : ℕ) → Reads before f bytes old new (Ok n) → IsListRefusal before (take n new) None
  read_unrefused f bytes old new n reads =
      let xs = reads.1.0 in
      let acceptable = reads.1.1 in
      let is : take n new ≡ xs
      = ap (take n) reads.1.3 ∙ take_at xs (drop (length xs) old) n (sym reads.1.2) in
      subst (λ (l : List E). IsListRefusal before l None) (sym is) (unrefused xs acceptable.in_order acceptable.not_long)

  -- and no refusal is found of it
  pub none_found : (xs : List E) → IsListRefusal before xs None → (refusal : Option Refusal) → IsListRefusal before xs refusal → refusal ≡ None
  none_found xs none None found = refl
  none_found xs none (Some refusal) found = absurd (not_both before xs refusal found none)
