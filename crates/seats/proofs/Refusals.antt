-- A list of a pair is refused or not, and one that is not refused never falls and is short.
use Rattle.std.proofs.Common.{◌≡◌, ◌≤◌, Bool, true, false, List, [], ◌∷◌, length, Some, None, Option, refl}
use Rattle.std.proofs.lemmas.Bool.{ltb-false}
use Rattle.elements.specs.Orders.{IsOrder, NeverFalls}
use Rattle.elements.specs.SpotChecks.{check_spot}
use Rattle.elements.proofs.FirstFalls.{fall_of, no_first_fall}
use Rattle.faults.specs.declared.refusal.Refusal.{Refusal}
use Rattle.faults.specs.declared.refusal.Refusal.TheVariants.{OutOfOrder, ListTooLong}
use Rattle.faults.specs.RefusalOrder.{check, first_check}
use Rattle.seats.specs.ListRefusals.{IsListRefusal, too_long}

module _ {T : Type 0} (before : T → T → Bool) (xs : List T) where
  -- a list is refused or not
  pub refusal_of : IsOrder before → (refusal : Option Refusal) × IsListRefusal before xs refusal
  refusal_of o =
      let fall = fall_of before xs o in
      (first_check (check_spot OutOfOrder fall.0 ∷ check (too_long xs) ListTooLong ∷ []), (fall.0, fall.1, refl))

  -- a list that a test for its length does not refuse is short
  short_by_check : (long : Bool) → too_long xs ≡ long → None ≡ first_check (check long ListTooLong ∷ []) → length xs ≤ 65536
  short_by_check true is e = absurd cc
  short_by_check false is e = ltb-false 65536 (length xs) is

  -- a list that is not refused never falls and is short
  pub unrefused_fits : IsListRefusal before xs None → NeverFalls before xs × (length xs ≤ 65536)
  unrefused_fits (None, never, e) = (never, short_by_check (too_long xs) refl e)
  unrefused_fits (Some number, first, e) = absurd cc

  -- no list is both refused and not
  pub not_both : (refusal : Refusal) → IsListRefusal before xs (Some refusal) → IsListRefusal before xs None → ⊥
  not_both refusal (None, never, e) (None, never_too, f) = cc
  not_both refusal (None, never, e) (Some number, first, f) = cc
  not_both refusal (Some number, first, e) (None, never, f) = no_first_fall before xs never number first
  not_both refusal (Some number, first, e) (Some other, other_first, f) = cc
