-- A search ends within as many rounds as its range can be halved.
use Rattle.std.proofs.Common.{◌≡◌, ℕ, zero, suc, ◌+◌, ◌-◌, ◌^◌, ◌<◌, ◌≤◌, List, length, inl, inr, arith}
use Rattle.std.proofs.Math.Nat.{pow-suc}
use Rattle.std.proofs.lemmas.Bool.{cases_lt}
use Rattle.rankunit.specs.Group.Ranges.{target}
use Rattle.rankunit.specs.Group.Searches.{Search, done, lower, higher}
use Rattle.rankunit.specs.Referees.declared.verdict.GroupVerdict.{GroupVerdict}
use Rattle.rankunit.specs.Referees.declared.verdict.GroupVerdict.TheVariants.{Lower, Higher, Done}

module _ (judge : ℕ → GroupVerdict) where
  -- no search ends whose target is 0, where the judge says lower
  never_ends : {a b m : ℕ} {verdicts : List GroupVerdict} → Search judge a b verdicts m → target a b ≡ 0 → judge 0 ≡ Lower → ⊥
  never_ends (done order is) none less = let e : judge 0 ≡ Done = rw none at is in cc
  never_ends (lower {a = a} {b = b} order is later) none less = never_ends later (omega (arith, none)) less
  never_ends (higher order is later) none less = let e : judge 0 ≡ Higher = rw none at is in cc

  -- and each goes through ranges that are not empty
  not_empty : {a b m : ℕ} {verdicts : List GroupVerdict} → Search judge a b verdicts m → a ≤ b
  not_empty (done order is) = order
  not_empty (lower order is later) = order
  not_empty (higher order is later) = order

  pub search_is_short : {a b m : ℕ} {verdicts : List GroupVerdict} → Search judge a b verdicts m → (j : ℕ) → b - a + 1 < 2 ^ j → length verdicts ≤ j
  search_is_short (done order is) zero small = absurd (omega arith)
  search_is_short (done order is) (suc j) small = omega arith
  search_is_short (lower order is later) zero small = absurd (omega arith)
  search_is_short (lower {a = a} {b = b} order is later) (suc j) small = elim (cases_lt 0 (target a b)) [
    | inl some ↦ omega (arith, search_is_short later j (omega (arith, small, pow-suc 2 j, some, not_empty later)))
    | inr none ↦
        let at_0 : target a b ≡ 0 = omega (arith, none) in
        absurd (never_ends later (omega (arith, at_0)) (rw at_0 at is))
  ]
  search_is_short (higher order is later) zero small = absurd (omega arith)
  search_is_short (higher {a = a} {b = b} order is later) (suc j) small =
      omega (arith, search_is_short later j (omega (arith, small, pow-suc 2 j, not_empty later)))
