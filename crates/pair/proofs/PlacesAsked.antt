-- The window of a history is the one to which its verdicts lead, so that a side is asked for what the law says.
use Rattle.std.proofs.Common.{◌≡◌, ℕ, suc, ◌+◌, ◌-◌, ◌/◌, ◌*◌, ◌^◌, List, [], ◌∷◌, ◌++◌, length, reverse, sym, ap, ◌∙◌, subst, arith}
use Rattle.std.proofs.lemmas.List.{length-reverse}
use mathlib.Core.List.{reverse_aux-eq}
use Rattle.referees.specs.declared.verdict.PairVerdict.{PairVerdict}
use Rattle.pair.specs.Rows.{halvings}
use Rattle.pair.specs.Bisection.{place_asked, moved, offset_after}
use Rattle.pair.specs.declared.side.Side.{Side}
use Rattle.pair.specs.WindowLaws.{HalvedBy, by_none, by_first, FollowsVerdicts}
use Rattle.pair.specs.HalvedWindow.{IsWhole, Halves, offset_of}
use Rattle.pair.specs.declared.window.Window.{Window}
use Rattle.pair.proofs.WindowPath.{windows_follow_verdicts}
use Rattle.pair.specs.PairProtocol.{place_after}

-- halved by some verdicts and then by one more
halved_again : {first old new : Window} {verdicts : List PairVerdict} {verdict : PairVerdict} →
    HalvedBy first verdicts old → Halves old verdict new → HalvedBy first (verdicts ++ verdict ∷ []) new
halved_again by_none h = by_first h by_none
halved_again (by_first g later) h = by_first g (halved_again later h)

-- the window to which these verdicts, the newest first, have led in rows for rank k; it can be halved j times more
pub record LedTo (k j : ℕ) (verdicts : List PairVerdict) (window : Window) : Type 0 where
  pub rank_is : window.rank ≡ k
  pub whole : Window
  pub is_whole : IsWhole k whole
  pub halved : HalvedBy whole (reverse verdicts) window
  pub rounds : length verdicts + j ≡ halvings k

module _ {k j : ℕ} {verdicts : List PairVerdict} {window : Window} (led : LedTo k j verdicts window) where
  -- it has the offsets and the size that the bisection gives it
  pub follows : FollowsVerdicts k (reverse verdicts) window
  follows = windows_follow_verdicts k led.whole window (reverse verdicts) led.is_whole led.halved

  -- its size is the power of two with as many halvings as are left
  pub size_is : window.size ≡ 2 ^ j
  size_is =
      follows.size
      ∙ ap (λ (i : ℕ). 2 ^ i) (let left : halvings k - length (reverse verdicts) ≡ j = omega (arith, led.rounds, length-reverse verdicts) in left)

  -- the place that the law says a side is asked for is the one that the window asks it for
  pub asked_by_window : (side : Side) → place_after k side verdicts ≡ place_asked (offset_of side window) (2 ^ j)
  asked_by_window side =
      let left : halvings k - length verdicts ≡ j = omega (arith, led.rounds) in
      ap (λ (i : ℕ). place_asked (offset_after side 0 (halvings k) (reverse verdicts)) (2 ^ i)) left
      ∙ ap (λ (offset : ℕ). place_asked offset (2 ^ j)) (sym (follows.offsets side))

-- the whole window is the one to which no verdicts have led
pub led_to_whole : (k : ℕ) (window : Window) → IsWhole k window → LedTo k (halvings k) [] window
led_to_whole k window w = record { rank_is = w.rank_is; whole = window; is_whole = w; halved = by_none; rounds = omega arith }

module _ {k j : ℕ} {verdicts : List PairVerdict} {old new : Window} {verdict : PairVerdict} (led : LedTo k (suc j) verdicts old)
    (h : Halves old verdict new) where
  -- a verdict leads on to the window that it leaves
  pub led_on : LedTo k j (verdict ∷ verdicts) new
  led_on = record {
    rank_is = h.same_rank ∙ led.rank_is;
    whole = led.whole;
    is_whole = led.is_whole;
    halved = subst (λ (vs : List PairVerdict). HalvedBy led.whole vs new) (sym (reverse_aux-eq verdicts (verdict ∷ []))) (halved_again led.halved h);
    rounds = omega (arith, led.rounds);
  }

  -- a side's offset moves by half the size
  pub offset_moves : (side : Side) → moved side verdict (2 ^ j) (offset_of side old) ≡ offset_of side new
  offset_moves side =
      let size : old.size ≡ 2 ^ suc j = size_is led in
      let double : 2 ^ suc j ≡ 2 * 2 ^ j = omega arith in
      let step : old.size / 2 ≡ 2 ^ j = omega arith in
      sym (h.offsets side ∙ ap (λ (s : ℕ). moved side verdict s (offset_of side old)) step)
