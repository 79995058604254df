-- When a sheet is refused, and when it is accepted.
use Rattle.std.specs.Prelude.{◌≡◌, ℕ, ◌-◌, ◌%◌, ◌≤◌, Bool, not, ◌||◌, List, [], ◌∷◌, ◌++◌, length, None, Option, ◌==◌, nat_lt}
use Rattle.elements.specs.Limits.{longest_list}
use Rattle.elements.specs.Orders.{NeverFalls, IsFirstFall}
use Rattle.elements.specs.SpotChecks.{check_spot}
use Rattle.faults.specs.RefusalOrder.{check, first_check}
use Rattle.faults.specs.declared.refusal.Refusal.{Refusal}
use Rattle.faults.specs.declared.refusal.Refusal.TheVariants.{SheetTooShort, VersionUnknown, CountDiffers, KindNotWanted, BodyNotAList, OutOfOrder, SliceTooShort}
use Rattle.sheets.specs.Layouts.{Format, elements_in, packed, layout}
use Rattle.sheets.specs.Headers.{version, stated_count, kind_of, body_of}

module _ {E : Type 0} (f : Format E) (bytes : List ℕ) where
  -- the body is no whole number of elements, or has too many
  abbrev pub not_a_list : Bool
  not_a_list = not (length (body_of bytes) % f.width == 0) || nat_lt longest_list (elements_in f (body_of bytes))

  -- the checks that need no element: of the header, and of how long the body is
  abbrev pub header_checks : List (Option Refusal)
  header_checks =
      check (nat_lt (length bytes) 6) SheetTooShort
      ∷ check (not (version bytes == 1)) VersionUnknown
      ∷ check (not (stated_count bytes == length bytes - 5)) CountDiffers
      ∷ check (not (kind_of bytes == f.kind)) KindNotWanted
      ∷ check not_a_list BodyNotAList
      ∷ []

  abbrev pub header_refusal : Option Refusal
  header_refusal = first_check header_checks

  -- a list whose elements are the body
  abbrev pub Body : List E → Type 0
  Body xs = packed f xs ≡ body_of bytes

module _ {E : Type 0} (before : E → E → Bool) (f : Format E) (bytes : List ℕ) (room : ℕ) where
  -- where the list in the body first falls; where the checks of the header pass, there is such a list
  pub record FirstFallInBody (fall : Option ℕ) : Type 0 where
    pub some_list : header_refusal f bytes ≡ None → (xs : List E) × Body f bytes xs
    pub is_first : (xs : List E) → Body f bytes xs → IsFirstFall before xs fall

  -- A sheet that is read for a slice of so much room: those checks, then 6 where the list in the body falls, and 7 where it has
  -- more elements than there is room for.
  abbrev pub IsSheetRefusal : Option Refusal → Type 0
  IsSheetRefusal refusal =
      (fall : Option ℕ) × FirstFallInBody fall × (refusal ≡
      first_check (header_checks f bytes ++ (check_spot OutOfOrder fall ∷ check (nat_lt room (elements_in f (body_of bytes))) SliceTooShort ∷ [])))

  -- the bytes are the layout of a list that never falls, is not too long and fits the slice
  pub record Acceptable (xs : List E) : Type 0 where
    pub laid_out : bytes ≡ layout f xs
    pub in_order : NeverFalls before xs
    pub not_long : length xs ≤ longest_list
    pub fits : length xs ≤ room
