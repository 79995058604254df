-- The checks that need no element: which refusal they come to, and what holds of a sheet that passes them.
use Rattle.std.proofs.Common.{◌≡◌, ℕ, ◌-◌, ◌%◌, ◌≤◌, Bool, true, false, not, List, [], ◌∷◌, ◌++◌, length, Some, None, Option, ◌==◌, nat_lt, refl}
use Rattle.std.proofs.lemmas.Bool.{ltb-false, le-ltb, eqb-true, eq-eqb, not-false, not_from_true, or_parts, or_from}
use Rattle.elements.specs.Limits.{longest_list}
use Rattle.faults.specs.RefusalOrder.{check, first_check}
use Rattle.faults.specs.declared.refusal.Refusal.{Refusal}
use Rattle.sheets.specs.Headers.{version, stated_count, kind_of, body_of}
use Rattle.sheets.specs.Layouts.{Format, elements_in}
use Rattle.sheets.specs.Refusals.{header_refusal, not_a_list}

-- where the first part of some checks refuses, it decides
pub decided_before : (checks later : List (Option Refusal)) (refusal : Refusal) → first_check checks ≡ Some refusal → first_check (checks ++ later) ≡ Some refusal
decided_before [] later refusal e = absurd cc
decided_before (None ∷ checks) later refusal e = decided_before checks later refusal e
decided_before (Some first ∷ checks) later refusal e = e

-- where it does not, the rest does
pub decided_after : (checks later : List (Option Refusal)) → first_check checks ≡ None → first_check (checks ++ later) ≡ first_check later
decided_after [] later e = refl
decided_after (None ∷ checks) later e = decided_after checks later e
decided_after (Some first ∷ checks) later e = absurd cc

-- where no check refuses, the first one does not
passed : (condition : Bool) (refusal : Refusal) (later : List (Option Refusal)) → first_check (check condition refusal ∷ later) ≡ None →
    (condition ≡ false) × (first_check later ≡ None)
passed true refusal later e = absurd cc
passed false refusal later e = (refl, e)

-- what the checks that need no element find of a sheet that passes them
pub record HeaderPasses {E : Type 0} (f : Format E) (bytes : List ℕ) : Type 0 where
  pub long : 6 ≤ length bytes
  pub versioned : version bytes ≡ 1
  pub counted : stated_count bytes ≡ length bytes - 5
  pub wanted : kind_of bytes ≡ f.kind
  pub whole : length (body_of bytes) % f.width ≡ 0
  pub few : elements_in f (body_of bytes) ≤ longest_list

module _ {E : Type 0} (f : Format E) (bytes : List ℕ) where
  equal : (a b : ℕ) → not (a == b) ≡ false → a ≡ b
  equal a b e = eqb-true a b (not-false (a == b) e)

  unequal : (a b : ℕ) → a ≡ b → not (a == b) ≡ false
  unequal a b e = not_from_true (a == b) (eq-eqb a b e)

  pub passes : header_refusal f bytes ≡ None → HeaderPasses f bytes
  passes e =
      let a = passed (nat_lt (length bytes) 6) _ _ e in
      let b = passed (not (version bytes == 1)) _ _ a.1 in
      let c = passed (not (stated_count bytes == length bytes - 5)) _ _ b.1 in
      let d = passed (not (kind_of bytes == f.kind)) _ _ c.1 in
      let body = or_parts _ _ (passed (not_a_list f bytes) _ _ d.1).0 in
      record {
        long = ltb-false (length bytes) 6 a.0;
        versioned = equal _ _ b.0;
        counted = equal _ _ c.0;
        wanted = equal _ _ d.0;
        whole = equal _ _ body.0;
        few = ltb-false longest_list _ body.1;
      }

  pub passes_checks : HeaderPasses f bytes → header_refusal f bytes ≡ None
  passes_checks p =
      let long : nat_lt (length bytes) 6 ≡ false = le-ltb (length bytes) 6 p.long in
      let list : not_a_list f bytes ≡ false = or_from _ _ (unequal _ _ p.whole) (le-ltb longest_list _ p.few) in
      rw (long, unequal _ _ p.versioned, unequal _ _ p.counted, unequal _ _ p.wanted, list) refl
