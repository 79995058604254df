-- What an accepted opening says of the range and of the rank.
use Rattle.std.proofs.Common.{◌≡◌, ℕ, ◌^◌, ◌<◌, ◌≤◌, Bool, true, false, ◌||◌, List, [], ◌∷◌, Some, None, Option, ◌==◌, nat_lt, refl, arith}
use Rattle.std.specs.List.{sum}
use Rattle.std.proofs.lemmas.Bool.{or_parts, ltb-false, eqb-false}
use Rattle.faults.specs.declared.refusal.Refusal.{Refusal}
use Rattle.faults.specs.RefusalOrder.{check, first_check}
use Rattle.group.specs.SeatValues.{seats_refusal}
use Rattle.group.specs.GroupCalls.{opening_refusal}

-- a group as its run is opened: the order of its elements and their places, the lowest and the highest of the type's places,
-- the lengths declared of its lists, the range of places that they are in, and the rank asked for
pub record Group (T : Type 0) : Type 0 where
  pub before : T → T → Bool
  pub place : T → ℕ
  pub lowest : ℕ
  pub highest : ℕ
  pub declared : List ℕ
  pub lo : ℕ
  pub hi : ℕ
  pub k : ℕ

-- the range is one of places of the type, not empty, and the rank is one among lists of these lengths
pub record Allowed {T : Type 0} (g : Group T) : Type 0 where
  pub from_lowest : g.lowest ≤ g.lo
  pub order : g.lo ≤ g.hi
  pub to_highest : g.hi ≤ g.highest
  pub in_64_bits : g.hi < 2 ^ 64
  pub from_1 : 1 ≤ g.k
  pub up_to_all : g.k ≤ sum g.declared

-- where none of three checks refuses, neither of the last two conditions holds
neither_holds : (first : Option Refusal) (c d : Bool) (r s : Refusal) → first_check (first ∷ check c r ∷ check d s ∷ []) ≡ None →
    (c ≡ false) × (d ≡ false)
neither_holds (Some refusal) c d r s e = absurd cc
neither_holds None true d r s e = absurd cc
neither_holds None false true r s e = absurd cc
neither_holds None false false r s e = (refl, refl)

-- an opening that no check refuses has such a range and such a rank
pub opening_allowed : {T : Type 0} (g : Group T) → g.highest < 2 ^ 64 → opening_refusal g.lowest g.highest g.declared g.lo g.hi g.k ≡ None → Allowed g
opening_allowed g small e =
    let beyond = nat_lt g.lo g.lowest || nat_lt g.highest g.hi in
    let c = neither_holds (seats_refusal g.declared) (nat_lt g.hi g.lo || beyond) (g.k == 0 || nat_lt (sum g.declared) g.k) _ _ e in
    let range = or_parts (nat_lt g.hi g.lo) beyond c.0 in
    let ends = or_parts (nat_lt g.lo g.lowest) (nat_lt g.highest g.hi) range.1 in
    let rank = or_parts (g.k == 0) (nat_lt (sum g.declared) g.k) c.1 in
    let highest : g.hi ≤ g.highest = ltb-false g.highest g.hi ends.1 in
    let not_0 : g.k ≡ 0 → ⊥ = eqb-false g.k 0 rank.0 in
    record {
      from_lowest = ltb-false g.lo g.lowest ends.0;
      order = ltb-false g.hi g.lo range.0;
      to_highest = highest;
      in_64_bits = omega arith;
      from_1 = omega arith;
      up_to_all = ltb-false (sum g.declared) g.k rank.1;
    }
