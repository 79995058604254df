-- Two elements with the same numbers are one: what their ghost fields say has one proof at most.
use Rattle.std.specs.Prelude.{◌≡◌, ℕ, ◌-◌, ◌^◌, ◌<◌, ℤ, pos, negsuc, ◌≤ℤ◌}
use Rattle.std.proofs.Common.{subst, ◌∙◌}
use Rattle.std.proofs.Math.Bridge.{le_prop}
use Rattle.std.proofs.Props.{props}
use Rattle.elements.specs.declared.delay.Delay.{Delay}
use Rattle.elements.specs.declared.link_level.LinkLevel.{LinkLevel}

pub delay_alike : (x y : Delay) → x.micros ≡ y.micros → x ≡ y
delay_alike x y e =
    let P : ℕ → Type 0 = λ n. (q : n < 2 ^ 32) → x ≡ record { micros = n; fits = q } in
    subst P e (λ q i. record { micros = x.micros; fits = le_prop x.fits q i }) y.fits

-- the link level with these numbers
abbrev pub made : (a : ℤ) (b : ℕ) → negsuc (2 ^ 31 - 1) ≤ℤ a → a ≤ℤ pos (2 ^ 31 - 1) → b < 2 ^ 32 → LinkLevel
made a b p q r = record { level = a; link = b; low = p; high = q; fits = r }

pub level_alike : (x y : LinkLevel) → x.level ≡ y.level → x.link ≡ y.link → x ≡ y
level_alike x y e f =
    let P : ℤ → Type 0 = λ a. (p : negsuc (2 ^ 31 - 1) ≤ℤ a) (q : a ≤ℤ pos (2 ^ 31 - 1)) → x ≡ made a x.link p q x.fits in
    let Q : ℕ → Type 0 = λ b. (r : b < 2 ^ 32) → x ≡ made y.level b y.low y.high r in
    let lows : IsProp (negsuc (2 ^ 31 - 1) ≤ℤ x.level) = hlevel props in
    let highs : IsProp (x.level ≤ℤ pos (2 ^ 31 - 1)) = hlevel props in
    let here : x ≡ made y.level x.link y.low y.high x.fits
    = subst P e (λ p q i. made x.level x.link (lows x.low p i) (highs x.high q i) x.fits) y.low y.high in
    subst Q f (λ r. here ∙ (λ i. made y.level x.link y.low y.high (le_prop x.fits r i))) y.fits
