-- Entries keep the laws of the elements' order.
use Rattle.std.specs.Prelude.{◌≡◌, ℕ, Bool, refl}
use Rattle.std.proofs.lemmas.Bool.{false≢true}
use Rattle.std.proofs.Common.{ap, inl, inr, ⊎_elim, arith}
use Rattle.elements.specs.Orders.{Trichotomy, Transitive, IsOrder}
use Rattle.elements.specs.Entries.{entry_before}
use Rattle.elements.specs.declared.entry.Entry.TheVariants.{Below, Element, Above}

module _ {E : Type 0} (before : E → E → Bool) where
  pub entries_trichotomy : Trichotomy before → Trichotomy (entry_before before)
  entries_trichotomy one Below Below = inr (inr (false≢true, false≢true, refl))
  entries_trichotomy one Below (Element y) = inl (refl, false≢true, λ e. let z : ◌≡◌ {A = ℕ} 0 1 = cc in omega arith)
  entries_trichotomy one Below Above = inl (refl, false≢true, λ e. let z : ◌≡◌ {A = ℕ} 0 1 = cc in omega arith)
  entries_trichotomy one (Element x) Below = inr (inl (false≢true, refl, λ e. let z : ◌≡◌ {A = ℕ} 0 1 = cc in omega arith))
  entries_trichotomy one (Element x) (Element y) =
      ⊎_elim
      (λ p. inl (p.0, p.1, λ e. p.2 (cc)))
      (⊎_elim (λ p. inr (inl (p.0, p.1, λ e. p.2 (cc)))) (λ p. inr (inr (p.0, p.1, ap Element p.2))))
      (one x y)
  entries_trichotomy one (Element x) Above = inl (refl, false≢true, λ e. let z : ◌≡◌ {A = ℕ} 0 1 = cc in omega arith)
  entries_trichotomy one Above Below = inr (inl (false≢true, refl, λ e. let z : ◌≡◌ {A = ℕ} 0 1 = cc in omega arith))
  entries_trichotomy one Above (Element y) = inr (inl (false≢true, refl, λ e. let z : ◌≡◌ {A = ℕ} 0 1 = cc in omega arith))
  entries_trichotomy one Above Above = inr (inr (false≢true, false≢true, refl))

  pub entries_transitive : Transitive before → Transitive (entry_before before)
  entries_transitive steps Below Below z p q = absurd (false≢true p)
  entries_transitive steps Below (Element y) Below p q = absurd (false≢true q)
  entries_transitive steps Below (Element y) (Element z) p q = refl
  entries_transitive steps Below (Element y) Above p q = refl
  entries_transitive steps Below Above Below p q = absurd (false≢true q)
  entries_transitive steps Below Above (Element z) p q = absurd (false≢true q)
  entries_transitive steps Below Above Above p q = refl
  entries_transitive steps (Element x) Below z p q = absurd (false≢true p)
  entries_transitive steps (Element x) (Element y) Below p q = absurd (false≢true q)
  entries_transitive steps (Element x) (Element y) (Element z) p q = steps x y z p q
  entries_transitive steps (Element x) (Element y) Above p q = refl
  entries_transitive steps (Element x) Above Below p q = absurd (false≢true q)
  entries_transitive steps (Element x) Above (Element z) p q = absurd (false≢true q)
  entries_transitive steps (Element x) Above Above p q = refl
  entries_transitive steps Above Below z p q = absurd (false≢true p)
  entries_transitive steps Above (Element y) z p q = absurd (false≢true p)
  entries_transitive steps Above Above z p q = absurd (false≢true p)

  pub entries_order : IsOrder before → IsOrder (entry_before before)
  entries_order order = record { trichotomy = entries_trichotomy order.trichotomy; transitive = entries_transitive order.transitive }
