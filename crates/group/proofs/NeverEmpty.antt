-- Whatever the seats report, the range that they are asked about is never empty.
use Rattle.std.proofs.Common.{◌≡◌, ℕ, suc, ◌+◌, ◌-◌, ◌*◌, ◌^◌, ◌<◌, ◌≤◌, List, [], ◌∷◌, map, sum_by, refl, ◌∙◌, inl, inr, mul-le-mul_right, arith}
use Rattle.std.specs.List.{sum}
use Rattle.std.proofs.lemmas.Bool.{cases_eq}
use Rattle.std.proofs.lemmas.List.Sums.{sum_by-cons}
use Rattle.referees.specs.declared.verdict.GroupVerdict.TheVariants.{Lower, Higher}
use Rattle.group.specs.Exchanges.{AllPossible, verdict_on, all_known_after, Reached, opened, lowered, raised}
use Rattle.group.specs.GroupLaws.{RangeIsNeverEmpty}
use Rattle.group.specs.Ranges.{target}
use Rattle.group.specs.SeatRules.{first_bounds, bounds_after}
use Rattle.group.specs.declared.count_bounds.CountBounds.{CountBounds}
use Rattle.group.specs.declared.counts.Counts.{Counts}
use Rattle.group.proofs.Verdicts.{weighed_lower, weighed_higher}

-- sums over the seats: of the declared lengths, of what is known to be below, and of what is known to be above
abbrev lengths : List CountBounds → ℕ
lengths seats = sum_by (λ seat. seat.declared) seats

abbrev lows : List CountBounds → ℕ
lows seats = sum_by (λ seat. seat.low) seats

abbrev highs : List CountBounds → ℕ
highs seats = sum_by (λ seat. seat.high) seats

-- sums over what they report
abbrev belows : List Counts → ℕ
belows reports = sum_by (λ counts. counts.below) reports

abbrev aboves : List Counts → ℕ
aboves reports = sum_by (λ counts. counts.above) reports

-- what possible reports say of the sums, and what a verdict makes of them
record Sums (a b : ℕ) (seats : List CountBounds) (reports : List Counts) : Type 0 where
  at_a : target a b ≡ a → belows reports ≡ lows seats
  at_b : target a b ≡ b → aboves reports ≡ highs seats
  lower_lengths : lengths (all_known_after Lower seats reports) ≡ lengths seats
  lower_lows : lows (all_known_after Lower seats reports) ≡ lows seats
  lower_highs : highs (all_known_after Lower seats reports) + belows reports ≡ lengths seats
  higher_lengths : lengths (all_known_after Higher seats reports) ≡ lengths seats
  higher_highs : highs (all_known_after Higher seats reports) ≡ highs seats
  higher_lows : lows (all_known_after Higher seats reports) + aboves reports ≡ lengths seats

-- the sums over the seats are what a first seat adds to those over the others
module _ (seat : CountBounds) (seats : List CountBounds) where
  lengths-cons : lengths (seat ∷ seats) ≡ seat.declared + lengths seats
  lengths-cons = sum_by-cons (λ (s : CountBounds). s.declared) seat seats

  lows-cons : lows (seat ∷ seats) ≡ seat.low + lows seats
  lows-cons = sum_by-cons (λ (s : CountBounds). s.low) seat seats

  highs-cons : highs (seat ∷ seats) ≡ seat.high + highs seats
  highs-cons = sum_by-cons (λ (s : CountBounds). s.high) seat seats

-- possible reports have these sums
sums : (a b : ℕ) (seats : List CountBounds) (reports : List Counts) → AllPossible a b seats reports → Sums a b seats reports
sums a b [] [] p = record {
  at_a = λ _. refl;
  at_b = λ _. refl;
  lower_lengths = refl;
  lower_lows = refl;
  lower_highs = refl;
  higher_lengths = refl;
  higher_highs = refl;
  higher_lows = refl;
}
sums a b [] (counts ∷ reports) p = absurd p
sums a b (seat ∷ seats) [] p = absurd p
sums a b (seat ∷ seats) (counts ∷ reports) p =
    let i = sums a b seats reports p.1 in
    let room = p.0.room in
    let lower = bounds_after Lower seat counts in
    let higher = bounds_after Higher seat counts in
    let lowers = all_known_after Lower seats reports in
    let highers = all_known_after Higher seats reports in
    let d = lengths-cons seat seats in
    let l = lows-cons seat seats in
    let h = highs-cons seat seats in
    let u = sum_by-cons (λ (c : Counts). c.below) counts reports in
    let v = sum_by-cons (λ (c : Counts). c.above) counts reports in
    record {
      at_a = λ e. omega (arith, i.at_a e, p.0.edge_a e, l, u);
      at_b = λ e. omega (arith, i.at_b e, p.0.edge_b e, h, v);
      lower_lengths = omega (arith, i.lower_lengths, d, lengths-cons lower lowers);
      lower_lows = omega (arith, i.lower_lows, l, lows-cons lower lowers);
      lower_highs = omega (arith, i.lower_highs, d, u, highs-cons lower lowers);
      higher_lengths = omega (arith, i.higher_lengths, d, lengths-cons higher highers);
      higher_highs = omega (arith, i.higher_highs, h, highs-cons higher highers);
      higher_lows = omega (arith, i.higher_lows, d, v, lows-cons higher highers);
    }

-- What is known of the seats leaves the rank in the range: of n elements in all, fewer than k are known to be below it, and
-- those known to be above it and k are n at most.
pub record RankInRange (k n a b : ℕ) (seats : List CountBounds) : Type 0 where
  pub all : lengths seats ≡ n
  pub few : lows seats < k
  pub many : highs seats + k ≤ n
  pub order : a ≤ b

-- it is in the range before any round
pub in_range_at_first : (lo hi k : ℕ) (declared : List ℕ) → lo ≤ hi → 1 ≤ k → k ≤ sum declared →
    RankInRange k (sum declared) lo hi (map first_bounds declared)
in_range_at_first lo hi k declared order one most =
    let s = start declared in
    record { all = s.0; few = omega (arith, s.1); many = omega (arith, s.2); order = order }
  where
    start : (ds : List ℕ) → (lengths (map first_bounds ds) ≡ sum ds) × (lows (map first_bounds ds) ≡ 0) × (highs (map first_bounds ds) ≡ 0)
    start [] = (refl, refl, refl)
    start (d ∷ ds) =
        let i = start ds in (
          omega (arith, i.0, lengths-cons (first_bounds d) (map first_bounds ds), sum_by-cons (λ (n : ℕ). n) d ds),
          omega (arith, i.1, lows-cons (first_bounds d) (map first_bounds ds)),
          omega (arith, i.2, highs-cons (first_bounds d) (map first_bounds ds)),
        )

module _ (k n a b : ℕ) (seats : List CountBounds) (reports : List Counts) (i : RankInRange k n a b seats) (p : AllPossible a b seats reports) where
  -- lower leaves places below the target, and the rank among them
  pub in_range_lower : verdict_on k n reports ≡ Lower → (a < target a b) × RankInRange k n a (target a b - 1) (all_known_after Lower seats reports)
  in_range_lower e =
      let s = sums a b seats reports p in
      let w = weighed_lower (belows reports) (aboves reports) k n e in
      let m = target a b in
      let room : a < m = elim (cases_eq m a) [ inl q ↦ absurd (omega (arith, s.at_a q, i.few)) | inr q ↦ omega (arith, q, i.order) ] in (
        room,
        record {
          all = s.lower_lengths ∙ i.all;
          few = omega (arith, s.lower_lows, i.few);
          many = omega (arith, s.lower_highs, i.all);
          order = omega arith;
        },
      )

  -- higher leaves places above the target, and the rank among them
  pub in_range_higher : verdict_on k n reports ≡ Higher → (target a b < b) × RankInRange k n (target a b + 1) b (all_known_after Higher seats reports)
  in_range_higher e =
      let s = sums a b seats reports p in
      let w = weighed_higher (belows reports) (aboves reports) k n e in
      let m = target a b in
      let room : m < b = elim (cases_eq m b) [ inl q ↦ absurd (omega (arith, s.at_b q, i.many)) | inr q ↦ omega (arith, q, i.order) ] in (
        room,
        record {
          all = s.higher_lengths ∙ i.all;
          few = omega (arith, s.higher_lows, i.all);
          many = omega (arith, s.higher_highs, i.many);
          order = omega arith;
        },
      )

-- where p is at most half of q, and q is at most w once it is doubled so many times, so is p once more
pub halves : (p q rounds w : ℕ) → p * 2 ≤ q → q * 2 ^ rounds ≤ w → p * 2 ^ suc rounds ≤ w
halves p q rounds w h l = let e : 2 ^ suc rounds ≡ 2 * 2 ^ rounds = omega arith in rw e (omega (arith, mul-le-mul_right (2 ^ rounds) h))

module _ (lo hi k : ℕ) (declared : List ℕ) (order : lo ≤ hi) (one : 1 ≤ k) (most : k ≤ sum declared) where
  -- after accepted rounds the rank is in the range, which lies in the first one and was halved at least by each
  in_range_reached : {a b rounds : ℕ} {seats : List CountBounds} → Reached k declared lo hi a b seats rounds →
      RankInRange k (sum declared) a b seats × (lo ≤ a) × (b ≤ hi) × ((b - a + 1) * 2 ^ rounds ≤ hi - lo + 1)
  in_range_reached opened = (in_range_at_first lo hi k declared order one most, omega arith, omega arith, omega arith)
  in_range_reached (lowered {a = a} {b = b} {rounds = rounds} {seats = seats} reports r p e) =
      let i = in_range_reached r in
      let h = i.0.order in
      let w = in_range_lower k (sum declared) a b seats reports i.0 p e in
      let m = target a b in
      let room : a < m = w.0 in
      (w.1, i.1, omega (arith, i.2), halves (m - 1 - a + 1) (b - a + 1) rounds (hi - lo + 1) (omega arith) i.3)
  in_range_reached (raised {a = a} {b = b} {rounds = rounds} {seats = seats} reports r p e) =
      let i = in_range_reached r in
      let h = i.0.order in
      let w = in_range_higher k (sum declared) a b seats reports i.0 p e in
      let m = target a b in
      let room : m < b = w.0 in
      (w.1, omega (arith, i.1), i.2, halves (b - (m + 1) + 1) (b - a + 1) rounds (hi - lo + 1) (omega arith) i.3)

-- the range is never empty, lies in the first one, and each round halves it at least
pub range_is_never_empty : RangeIsNeverEmpty
range_is_never_empty lo hi k declared order one most a b rounds seats r =
    let i = in_range_reached lo hi k declared order one most r in
    (i.0.order, i.1, i.2, i.3)
