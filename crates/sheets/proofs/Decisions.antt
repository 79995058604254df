-- Which refusal a sheet comes to, and that a sheet is acceptable exactly if none refuses it.
use Rattle.std.proofs.Common.{◌≡◌, ℕ, ◌*◌, ◌/◌, ◌%◌, ◌≤◌, Bool, false, List, length, Some, None, Ok, Err, Option, Result, inl, inr, sym, refl, ap, ◌∙◌, subst, arith, div-add-mod', nat_lt}
use native.Mathlib.Nat.{mul-mod_left}
use Rattle.std.proofs.lemmas.Bool.{cases_eq, le-ltb}
use Rattle.elements.specs.Orders.{IsOrder, IsFirstFall, NeverFalls}
use Rattle.elements.proofs.FirstFalls.{fall_of, no_first_fall}
use Rattle.faults.specs.declared.refusal.Refusal.{Refusal}
use Rattle.faults.specs.declared.seat.Seat.{Seat}
use Rattle.faults.specs.declared.fault.SheetFault.{SheetFault}
use Rattle.sheets.specs.Headers.{body_of}
use Rattle.sheets.specs.Layouts.{Format, FormatLaw, Bytes, elements_in}
use Rattle.sheets.specs.Refusals.{header_checks, header_refusal, Body, FirstFallInBody, IsSheetRefusal, Acceptable}
use Rattle.sheets.specs.Readings.{Filled, Answers, ReaderLaw}
use Rattle.sheets.proofs.Bodies.{length-packed, elements_in-packed, packed_apart, bytes_drop, some_list}
use Rattle.sheets.proofs.HeaderPasses.{HeaderPasses, decided_before, decided_after, passes, passes_checks}
use Rattle.sheets.proofs.LayoutFacts.{layouts_apart, layout_passes, laid_out}

module _ {E : Type 0} (before : E → E → Bool) (f : Format E) (order : IsOrder before) {each : ℕ} (law : FormatLaw f each) (bytes : List ℕ) where
  -- the list in a body that is a whole number of elements
  pub the_list : Bytes bytes → length (body_of bytes) % f.width ≡ 0 → (xs : List E) × Body f bytes xs
  the_list h whole =
      let body = body_of bytes in
      let count : length body ≡ length body / f.width * f.width = omega (arith, div-add-mod' (length body) f.width, whole) in
      let r = some_list f law.fixed law.complete (length body / f.width) body (bytes_drop 6 bytes h) count in
      (r.0, r.1)

  one_list : (xs ys : List E) → Body f bytes xs → Body f bytes ys → xs ≡ ys
  one_list xs ys b c = packed_apart f law.fixed law.some law.distinct xs ys (b ∙ sym c)

  -- where the list in the body falls first, if there is such a list and it falls
  fall_of_body : Bytes bytes → (fall : Option ℕ) × ((xs : List E) → Body f bytes xs → IsFirstFall before xs fall)
  fall_of_body h = elim (cases_eq (length (body_of bytes) % f.width) 0) [
    | inl whole ↦
        let l = the_list h whole in
        let fall = fall_of before l.0 order in
        (fall.0, λ xs b. subst (λ (ys : List E). IsFirstFall before ys fall.0) (one_list l.0 xs l.1 b) fall.1)
    | inr odd ↦
        (None, λ xs b. absurd (odd (ap (λ (l : List ℕ). length l % f.width) (sym b) ∙ ap (λ (n : ℕ). n % f.width) (length-packed f law.fixed xs) ∙ mul-mod_left (length xs) f.width)))
  ]

  module _ (room : ℕ) where
    -- an answer about the fall of whatever list is the body is one about the list that is there, once the header passes
    pub fall_found : Bytes bytes → (fall : Option ℕ) → ((xs : List E) → Body f bytes xs → IsFirstFall before xs fall) → FirstFallInBody before f bytes room fall
    fall_found h fall is = record { some_list = λ pass. the_list h (passes f bytes pass).whole; is_first = is }

    -- a refusal that needs no element
    pub header_refuses : Bytes bytes → (refusal : Refusal) → header_refusal f bytes ≡ Some refusal → IsSheetRefusal before f bytes room (Some refusal)
    header_refuses h refusal e = let fall = fall_of_body h in (fall.0, fall_found h fall.0 fall.1, sym (decided_before (header_checks f bytes) _ refusal e))

    -- bytes that pass all checks are the layout of their list
    pub acceptable : Bytes bytes → header_refusal f bytes ≡ None → (xs : List E) → Body f bytes xs → NeverFalls before xs → elements_in f (body_of bytes) ≤ room →
        Acceptable before f bytes room xs
    acceptable h pass xs b up fits =
        let p = passes f bytes pass in
        let n = elements_in-packed f law.fixed law.some xs (body_of bytes) b in
        record { laid_out = laid_out f bytes xs h p b; in_order = up; not_long = omega (arith, n, p.few); fits = omega (arith, n, fits) }

    -- an acceptable sheet is not refused
    pub acceptable_passes : (xs : List E) → Acceptable before f bytes room xs → (refusal : Option Refusal) → IsSheetRefusal before f bytes room refusal → refusal ≡ None
    acceptable_passes xs a refusal (Some number, falls, e) = absurd (no_first_fall before xs a.in_order number (falls.is_first xs (ap body_of (sym a.laid_out))))
    acceptable_passes xs a refusal (None, falls, e) =
        let pass : header_refusal f bytes ≡ None
        = passes_checks f bytes (subst (HeaderPasses f) (sym a.laid_out) (layout_passes f law xs a.not_long)) in
        let n = elements_in-packed f law.fixed law.some xs (body_of bytes) (ap body_of (sym a.laid_out)) in
        let fits : nat_lt room (elements_in f (body_of bytes)) ≡ false = le-ltb room _ (omega (arith, n, a.fits)) in
        e ∙ decided_after (header_checks f bytes) _ pass ∙ rw fits refl

    -- one list at most may be accepted
    acceptable_one : (xs ys : List E) → Acceptable before f bytes room xs → Acceptable before f bytes room ys → xs ≡ ys
    acceptable_one xs ys a b = layouts_apart f law xs ys (sym a.laid_out ∙ b.laid_out)

  -- the reader's law follows from its answer
  pub reader_law : (was is : List E) (seat : Option Seat) (r : Result ℕ SheetFault) → Answers before f bytes was is seat r → ReaderLaw before f bytes was is r
  reader_law was is seat (Ok n) a = record {
    only_layouts = λ m e. (a.1.0, a.1.1);
    each_layout = λ xs x.
        let same : a.1.0 ≡ xs = acceptable_one (length was) a.1.0 xs a.1.1 x in
        (ap Ok (a.1.2 ∙ ap length same), subst (λ (ys : List E). Filled ys was is) same a.1.3);
    no_other = acceptable_one (length was);
  }
  reader_law was is seat (Err fault) a = record {
    only_layouts = λ m h. absurd cc;
    each_layout = λ xs x. let none = acceptable_passes (length was) xs x (Some fault.refusal) a.0.0 in absurd cc;
    no_other = acceptable_one (length was);
  }
