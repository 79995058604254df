-- Rounds that go on where earlier rounds, none of them done, left the range and what is known of a seat.
use Rattle.std.proofs.Common.{◌≡◌, ◌+◌, ◌-◌, ◌≤◌, List, [], ◌∷◌, ◌++◌, reverse, refl, ap}
use Rattle.std.specs.List.{AllByRecursion as Each}
use Rattle.std.proofs.lemmas.List.Sorted.{IsPermutation-reverse}
use Rattle.std.proofs.ByRecursion.{all_shuffled}
use Rattle.referees.specs.declared.verdict.GroupVerdict.TheVariants.{Lower, Higher, Done}
use Rattle.group.specs.GroupLaws.{NoneDone, Standing, standing_after}
use Rattle.group.specs.Ranges.{target, from_after, to_after}
use Rattle.group.specs.SeatRules.{bounds_after, Round, round, EachPossible, NeverEmpty, Report, reports}

-- the range that rounds leave is not empty
pub order_after : (at : Standing) (rounds : List Round) → NeverEmpty at.a at.b rounds → let now = standing_after at rounds in now.a ≤ now.b
order_after at [] n = n
order_after at (round c v ∷ later) n =
    order_after (record { a = from_after v at.a at.b; b = to_after v at.a at.b; seat = bounds_after v at.seat c }) later n.2

module _ (more : List Round) where
  -- no range on the way is empty, where none is in either part
  pub never_empty_more : (at : Standing) (rounds : List Round) → NeverEmpty at.a at.b rounds → NoneDone rounds →
      let now = standing_after at rounds in NeverEmpty now.a now.b more → NeverEmpty at.a at.b (rounds ++ more)
  never_empty_more at [] n w m = m
  never_empty_more at (round c Lower ∷ later) n w m =
      (n.0, n.1, never_empty_more (record { a = at.a; b = target at.a at.b - 1; seat = bounds_after Lower at.seat c }) later n.2 w m)
  never_empty_more at (round c Higher ∷ later) n w m =
      (n.0, n.1, never_empty_more (record { a = target at.a at.b + 1; b = at.b; seat = bounds_after Higher at.seat c }) later n.2 w m)
  never_empty_more at (round c Done ∷ later) n w m = absurd w

  -- none is done, where none is in either part
  pub none_done_more : (rounds : List Round) → NoneDone rounds → NoneDone more → NoneDone (rounds ++ more)
  none_done_more [] w m = m
  none_done_more (round c Lower ∷ later) w m = none_done_more later w m
  none_done_more (round c Higher ∷ later) w m = none_done_more later w m
  none_done_more (round c Done ∷ later) w m = absurd w

  -- the counts of all rounds were possible, where those of each part were
  pub possible_more : (at : Standing) (rounds : List Round) → EachPossible at.a at.b at.seat rounds →
      let now = standing_after at rounds in EachPossible now.a now.b now.seat more → EachPossible at.a at.b at.seat (rounds ++ more)
  possible_more at [] h m = m
  possible_more at (round c v ∷ later) h m =
      (h.0, possible_more (record { a = from_after v at.a at.b; b = to_after v at.a at.b; seat = bounds_after v at.seat c }) later h.1 m)

  -- where those of all were, those of the later part were
  pub possible_later : (at : Standing) (rounds : List Round) → EachPossible at.a at.b at.seat (rounds ++ more) →
      let now = standing_after at rounds in EachPossible now.a now.b now.seat more
  possible_later at [] h = h
  possible_later at (round c v ∷ later) h =
      possible_later (record { a = from_after v at.a at.b; b = to_after v at.a at.b; seat = bounds_after v at.seat c }) later h.1

  -- all rounds lead where the later part leads from where the earlier part led
  pub standing_more : (at : Standing) (rounds : List Round) → standing_after at (rounds ++ more) ≡ standing_after (standing_after at rounds) more
  standing_more at [] = refl
  standing_more at (round c v ∷ later) =
      standing_more (record { a = from_after v at.a at.b; b = to_after v at.a at.b; seat = bounds_after v at.seat c }) later

  -- the reports of all are those of the earlier part and then those of the later one
  pub reports_more : (at : Standing) (rounds : List Round) →
      let now = standing_after at rounds in reports at.a at.b (rounds ++ more) ≡ reports at.a at.b rounds ++ reports now.a now.b more
  reports_more at [] = refl
  reports_more at (round c v ∷ later) =
      ap (λ (older : List Report). record { target = target at.a at.b; counts = c } ∷ older)
      (reports_more (record { a = from_after v at.a at.b; b = to_after v at.a at.b; seat = bounds_after v at.seat c }) later)

-- what holds of each element holds of each the other way round
pub each-reverse : {X : Type 0} (P : X → Type 0) (xs : List X) → Each P xs → Each P (reverse xs)
each-reverse P xs h = all_shuffled P xs (reverse xs) (IsPermutation-reverse xs) h
