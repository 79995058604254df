-- A list of places for a seat's counts, wherever they were possible in every round.
use Rattle.std.proofs.Common.{◌≡◌, ℕ, zero, suc, ◌+◌, ◌-◌, ◌<◌, ◌≤◌, nat_lt, List, [], ◌∷◌, ◌++◌, length, replicate, ap, subst, inl, inr, arith, length-append}
use Rattle.std.specs.List.{AllByRecursion as Each}
use Rattle.std.proofs.ByRecursion.{All-append, All-weaker}
use Rattle.std.proofs.lemmas.Bool.{cases_eq}
use Rattle.std.proofs.lemmas.List.{length-replicate}
use Rattle.elements.proofs.ListCounts.{count-append}
use Rattle.referees.specs.declared.verdict.GroupVerdict.{GroupVerdict}
use Rattle.referees.specs.declared.verdict.GroupVerdict.TheVariants.{Lower, Higher, Done}
use Rattle.group.specs.SeatCounts.{below, above, HasCounts}
use Rattle.group.specs.Ranges.{target, from_after, to_after}
use Rattle.group.specs.SeatRules.{bounds_after, Possible, Round, round, EachPossible, NeverEmpty, Report, reports}
use Rattle.group.specs.declared.count_bounds.CountBounds.{CountBounds}
use Rattle.group.specs.declared.counts.Counts.{Counts}
use Rattle.group.proofs.BelowAndAbove.{below_all, below_none, above_all, above_none}

-- a place is from a to b
abbrev pub Between : (a b y : ℕ) → Type 0
Between a b y = (a ≤ y) × (y ≤ b)

-- places have the reported counts, where besides them so many stand below all targets, and so many above
abbrev pub ShowsBesides : (low high : ℕ) → List ℕ → List Report → Type 0
ShowsBesides low high ys older = Each (λ r. (below r.target ys + low ≡ r.counts.below) × (above r.target ys + high ≡ r.counts.above)) older

-- where none stand besides, that is to say they have the reported counts
pub shows_alone : (ys : List ℕ) (older : List Report) → ShowsBesides 0 0 ys older → Each (λ r. HasCounts r.target ys r.counts) older
shows_alone ys [] s = tt
shows_alone ys (r ∷ older) s = ((omega (arith, s.0.0), omega (arith, s.0.1)), shows_alone ys older s.1)

-- the targets of rounds from a range on lie in it
targets_between : (a b : ℕ) (rounds : List Round) → NeverEmpty a b rounds → Each (λ r. Between a b r.target) (reports a b rounds)
targets_between a b [] n = tt
targets_between a b (round counts Lower ∷ later) n =
    let h : a ≤ b = n.0 in
    let l : a < target a b = n.1 in
    let m = target a b in
    let rest = targets_between a (m - 1) later n.2 in
    (omega arith, All-weaker (λ r. Between a (m - 1) r.target) (λ r. Between a b r.target) (λ r t. omega arith) (reports a (m - 1) later) rest)
targets_between a b (round counts Higher ∷ later) n =
    let h : a ≤ b = n.0 in
    let l : target a b < b = n.1 in
    let m = target a b in
    let rest = targets_between (m + 1) b later n.2 in
    (omega arith, All-weaker (λ r. Between (m + 1) b r.target) (λ r. Between a b r.target) (λ r t. omega arith) (reports (m + 1) b later) rest)
targets_between a b (round counts Done ∷ later) n =
    let h : a ≤ b = n.0 in
    (omega arith, targets_between a b later n.2)

module _ (low high a b : ℕ) (ys zs : List ℕ) where
  -- places above the range may be taken into the list
  take_above : Each (λ z. b < z) zs → (older : List Report) → Each (λ r. Between a b r.target) older →
      ShowsBesides low (high + length zs) ys older → ShowsBesides low high (ys ++ zs) older
  take_above over [] t s = tt
  take_above over (r ∷ older) t s =
      let m = r.target in
      let h : m ≤ b = t.0.1 in
      let none = below_none m zs (All-weaker (λ z. b < z) (λ z. m ≤ z) (λ z p. omega arith) zs over) in
      let all = above_all m zs (All-weaker (λ z. b < z) (λ z. m < z) (λ z p. omega arith) zs over) in (
        (
          omega (arith, s.0.0, count-append (λ y. nat_lt y m) ys zs, none),
          omega (arith, s.0.1, count-append (λ y. nat_lt m y) ys zs, all),
        ),
        take_above over older t.1 s.1,
      )

  -- and so may places below it
  take_below : Each (λ z. z < a) zs → (older : List Report) → Each (λ r. Between a b r.target) older →
      ShowsBesides (low + length zs) high ys older → ShowsBesides low high (zs ++ ys) older
  take_below under [] t s = tt
  take_below under (r ∷ older) t s =
      let m = r.target in
      let h : a ≤ m = t.0.0 in
      let all = below_all m zs (All-weaker (λ z. z < a) (λ z. z < m) (λ z p. omega arith) zs under) in
      let none = above_none m zs (All-weaker (λ z. z < a) (λ z. z ≤ m) (λ z p. omega arith) zs under) in (
        (
          omega (arith, s.0.0, count-append (λ y. nat_lt y m) zs ys, all),
          omega (arith, s.0.1, count-append (λ y. nat_lt m y) zs ys, none),
        ),
        take_below under older t.1 s.1,
      )

-- what holds of an element, if there are copies of it at all, holds of each
all_copies : {X : Type 0} (P : X → Type 0) (n : ℕ) (x : X) → (0 < n → P x) → Each P (replicate n x)
all_copies P zero x h = tt
all_copies P (suc n) x h = (h (omega arith), all_copies P n x (λ _. h (omega arith)))

-- places in three parts: some, n times m itself, and others
module _ (m n : ℕ) (us vs : List ℕ) where
  abbrev parts : List ℕ
  parts = us ++ (replicate n m ++ vs)

  -- as long as the parts are together
  length_parts : length parts ≡ length us + n + length vs
  length_parts = omega (arith, length-append us (replicate n m ++ vs), length-append (replicate n m) vs, length-replicate n m)

  -- what holds of the parts holds of all
  all_parts : (P : ℕ → Type 0) → Each P us → P m → Each P vs → Each P parts
  all_parts P u h v = All-append P us (replicate n m ++ vs) u (All-append P (replicate n m) vs (all_copies P n m (λ _. h)) v)

  module _ (u : Each (λ y. y < m) us) (v : Each (λ y. m < y) vs) where
    -- where the first are below m and the last above it, those below it are the first
    below_parts : below m parts ≡ length us
    below_parts =
        omega (
          arith,
          count-append (λ y. nat_lt y m) us (replicate n m ++ vs),
          count-append (λ y. nat_lt y m) (replicate n m) vs,
          below_all m us u,
          below_none m (replicate n m) (all_copies (λ y. m ≤ y) n m (λ _. omega arith)),
          below_none m vs (All-weaker (λ y. m < y) (λ y. m ≤ y) (λ y h. omega arith) vs v),
        )

    -- and those above it are the last
    above_parts : above m parts ≡ length vs
    above_parts =
        omega (
          arith,
          count-append (λ y. nat_lt m y) us (replicate n m ++ vs),
          count-append (λ y. nat_lt m y) (replicate n m) vs,
          above_none m us (All-weaker (λ y. y < m) (λ y. y ≤ m) (λ y h. omega arith) us u),
          above_none m (replicate n m) (all_copies (λ y. y ≤ m) n m (λ _. omega arith)),
          above_all m vs v,
        )

-- places from a to b fill up what is known of a seat to its declared length, and have the counts of its rounds
pub record Fills (a b : ℕ) (seat : CountBounds) (rounds : List Round) (ys : List ℕ) : Type 0 where
  pub all : seat.low + seat.high + length ys ≡ seat.declared
  pub within : Each (Between a b) ys
  pub shows : ShowsBesides seat.low seat.high ys (reports a b rounds)

module _ (a b : ℕ) (order : a ≤ b) (seat : CountBounds) (counts : Counts) (p : Possible a b seat counts) where
  -- so many copies of a as are not known to be below the range: they are below the target, as the rule for that edge says
  news_below : Each (λ y. (a ≤ y) × (y < target a b)) (replicate (counts.below - seat.low) a)
  news_below =
      all_copies (λ y. (a ≤ y) × (y < target a b)) (counts.below - seat.low) a
      (λ h. elim (cases_eq (target a b) a) [ inl e ↦ absurd (omega (arith, p.edge_a e)) | inr e ↦ (omega arith, omega (arith, e)) ])

  -- so many copies of b as are not known to be above the range: they are above the target, as the rule for that edge says
  news_above : Each (λ y. (target a b < y) × (y ≤ b)) (replicate (counts.above - seat.high) b)
  news_above =
      all_copies (λ y. (target a b < y) × (y ≤ b)) (counts.above - seat.high) b
      (λ h. elim (cases_eq (target a b) b) [ inl e ↦ absurd (omega (arith, p.edge_b e)) | inr e ↦ (omega (arith, e), omega arith) ])

  -- how many of the seat's places are at the target
  abbrev at : ℕ
  at = seat.declared - counts.below - counts.above

  -- places below and above the target that fill up the seat's counts fill the round, once those at the target join them,
  -- if all together have the counts of the later rounds
  fills_round : (us vs : List ℕ) → length us + seat.low ≡ counts.below → length vs + seat.high ≡ counts.above →
      Each (λ y. (a ≤ y) × (y < target a b)) us → Each (λ y. (target a b < y) × (y ≤ b)) vs → (verdict : GroupVerdict) (later : List Round) →
      ShowsBesides seat.low seat.high (parts (target a b) at us vs) (reports (from_after verdict a b) (to_after verdict a b) later) →
      Fills a b seat (round counts verdict ∷ later) (parts (target a b) at us vs)
  fills_round us vs few many u v verdict later s =
      let m = target a b in
      let room = p.room in
      let under = All-weaker (λ y. (a ≤ y) × (y < m)) (λ y. y < m) (λ y h. h.1) us u in
      let over = All-weaker (λ y. (m < y) × (y ≤ b)) (λ y. m < y) (λ y h. h.0) vs v in
      record {
        all = omega (arith, length_parts m at us vs);
        within =
            all_parts m at us vs (Between a b)
            (All-weaker (λ y. (a ≤ y) × (y < m)) (Between a b) (λ y h. omega arith) us u) (omega arith)
            (All-weaker (λ y. (m < y) × (y ≤ b)) (Between a b) (λ y h. omega arith) vs v);
        shows = ((omega (arith, below_parts m at us vs under over), omega (arith, above_parts m at us vs under over)), s);
      }

-- such places exist wherever the counts were possible in every round
pub build : (a b : ℕ) (seat : CountBounds) (rounds : List Round) → NeverEmpty a b rounds → seat.low + seat.high ≤ seat.declared →
    EachPossible a b seat rounds → (ys : List ℕ) × Fills a b seat rounds ys
build a b seat [] n h w =
    let size = seat.declared - seat.low - seat.high in (
      replicate size a,
      record { all = omega (arith, length-replicate size a); within = all_copies (Between a b) size a (λ _. omega arith); shows = tt },
    )
build a b seat (round counts Done ∷ (next ∷ later)) n h w = absurd (omega (arith, ap length n.1))
build a b seat (round counts Done ∷ []) n h w =
    let p : Possible a b seat counts = w.0 in
    let few = length-replicate (counts.below - seat.low) a in
    let many = length-replicate (counts.above - seat.high) b in
    let us = replicate (counts.below - seat.low) a in
    let vs = replicate (counts.above - seat.high) b in (
      parts (target a b) (at a b n.0 seat counts p) us vs,
      fills_round a b n.0 seat counts p us vs (omega (arith, few, p.low)) (omega (arith, many, p.high))
          (news_below a b n.0 seat counts p) (news_above a b n.0 seat counts p) Done [] tt,
    )
build a b seat (round counts Lower ∷ later) n h w =
    let m = target a b in
    let left : a < m = n.1 in
    let p : Possible a b seat counts = w.0 in
    let room = p.room in
    let low = p.low in
    let high = p.high in
    let size = at a b n.0 seat counts p in
    let older = reports a (m - 1) later in
    let rest = build a (m - 1) (bounds_after Lower seat counts) later n.2 (omega arith) w.1 in
    let us = rest.0 in
    let all = rest.1.all in
    let vs = replicate (counts.above - seat.high) b in
    let many = length-replicate (counts.above - seat.high) b in
    let v = news_above a b n.0 seat counts p in
    let zs = replicate size m ++ vs in
    let over : Each (λ z. m - 1 < z) zs
    = All-append (λ z. m - 1 < z) (replicate size m) vs
    (all_copies (λ z. m - 1 < z) size m (λ _. omega arith))
    (All-weaker (λ z. (m < z) × (z ≤ b)) (λ z. m - 1 < z) (λ z h. omega arith) vs v) in
    let more : seat.declared - counts.below ≡ seat.high + length zs
    = omega (arith, length-append (replicate size m) vs, length-replicate size m) in (
      parts m size us vs,
      fills_round a b n.0 seat counts p us vs (omega arith) (omega arith)
          (All-weaker (Between a (m - 1)) (λ y. (a ≤ y) × (y < m)) (λ y h. omega arith) us rest.1.within) v Lower later
          (take_above seat.low seat.high a (m - 1) us zs over older (targets_between a (m - 1) later n.2)
          (subst (λ (c : ℕ). ShowsBesides seat.low c us older) more rest.1.shows)),
    )
build a b seat (round counts Higher ∷ later) n h w =
    let m = target a b in
    let left : m < b = n.1 in
    let p : Possible a b seat counts = w.0 in
    let room = p.room in
    let low = p.low in
    let high = p.high in
    let size = at a b n.0 seat counts p in
    let older = reports (m + 1) b later in
    let targets = targets_between (m + 1) b later n.2 in
    let rest = build (m + 1) b (bounds_after Higher seat counts) later n.2 (omega arith) w.1 in
    let vs = rest.0 in
    let all = rest.1.all in
    let us = replicate (counts.below - seat.low) a in
    let few = length-replicate (counts.below - seat.low) a in
    let u = news_below a b n.0 seat counts p in
    let ms = replicate size m in
    let more : seat.declared - counts.above ≡ seat.low + length us + length ms = omega (arith, length-replicate size m) in (
      parts m size us vs,
      fills_round a b n.0 seat counts p us vs (omega arith) (omega arith)
          u (All-weaker (Between (m + 1) b) (λ y. (m < y) × (y ≤ b)) (λ y h. omega arith) vs rest.1.within) Higher later
          (take_below seat.low seat.high (m + 1) b (ms ++ vs) us
          (All-weaker (λ z. (a ≤ z) × (z < m)) (λ z. z < m + 1) (λ z h. omega arith) us u) older targets
          (take_below (seat.low + length us) seat.high (m + 1) b vs ms
          (all_copies (λ z. z < m + 1) size m (λ _. omega arith)) older targets
          (subst (λ (c : ℕ). ShowsBesides c seat.high vs older) more rest.1.shows))),
    )
