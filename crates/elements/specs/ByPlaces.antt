-- An order that agrees with places, one to an element, keeps the laws.
use Rattle.std.specs.Prelude.{◌≡◌, ℕ, suc, ◌<◌, Bool, true, nat_lt}
use Rattle.std.proofs.Common.{sym, ap, ◌∙◌, inl, inr, ⊎_elim, arith}
use Rattle.std.proofs.lemmas.Bool.Decides.{leb_tells, nat_tests}
use Rattle.elements.specs.Orders.{ExactlyOne, Trichotomy, Transitive, IsOrder, PlacesAgree}

-- of two numbers exactly one holds of first smaller, second smaller, and what equality stands for
pub numbers_trichotomy : (a b : ℕ) (P : Type 0) → (a ≡ b → P) → (P → a ≡ b) → ExactlyOne (nat_lt a b ≡ true) (nat_lt b a ≡ true) P
numbers_trichotomy a b P make read =
    ⊎_elim
    (λ l. inl (l.0, (λ r. grind (arith, nat_tests)), (λ p. let e : a ≡ b = read p in let h : a < b = l.1 in omega arith)))
    (λ l. ⊎_elim
    (λ r. inr (inl ((λ t. grind (arith, nat_tests)), r.0, (λ p. let e : a ≡ b = read p in let h : b < a = r.1 in omega arith))))
    (λ r. inr (inr ((λ t. grind (arith, nat_tests)), (λ t. grind (arith, nat_tests)), make (let h : b < suc a = l.1 in let k : a < suc b = r.1 in omega arith))))
    (leb_tells (suc b) a))
    (leb_tells (suc a) b)

pub numbers_transitive : (a b c : ℕ) → nat_lt a b ≡ true → nat_lt b c ≡ true → nat_lt a c ≡ true
numbers_transitive a b c p q = grind (arith, nat_tests)

pub numbers_order : IsOrder nat_lt
numbers_order = record { trichotomy = λ a b. numbers_trichotomy a b (a ≡ b) (λ e. e) (λ e. e); transitive = numbers_transitive }

module _ {E : Type 0} (before : E → E → Bool) (place : E → ℕ) (agrees : PlacesAgree before place) where
  pub trichotomy_by_places : ((x y : E) → place x ≡ place y → x ≡ y) → Trichotomy before
  trichotomy_by_places apart x y = rw (agrees x y, agrees y x) (numbers_trichotomy (place x) (place y) (x ≡ y) (apart x y) (ap place))

  pub transitive_by_places : Transitive before
  transitive_by_places x y z p q = agrees x z ∙ numbers_transitive (place x) (place y) (place z) (sym (agrees x y) ∙ p) (sym (agrees y z) ∙ q)

  pub order_by_places : ((x y : E) → place x ≡ place y → x ≡ y) → IsOrder before
  order_by_places apart = record { trichotomy = trichotomy_by_places apart; transitive = transitive_by_places }
