-- Lists that explain the reports of a trace: there are some, and whatever lists do, they have one element of the rank asked for.
use Rattle.std.proofs.Common.{◌≡◌, ℕ, suc, ◌-◌, ◌≤◌, Bool, List, [], length, get_or, sum_by, Some, sym, ◌∙◌, subst, arith}
use Rattle.std.specs.List.{AllByRecursion as Each, sum}
use Rattle.std.specs.Prelude.{slice_get}
use Rattle.std.proofs.lemmas.List.{length-map}
use Rattle.std.proofs.lemmas.Option.{slice_get_within}
use Rattle.elements.specs.Orders.{IsOrder, PlacesAgree, OneElementEach}
use Rattle.elements.specs.Ranks.{joint, Ranked}
use Rattle.elements.proofs.RankFacts.{some_ranked, ranked_unique, ranked_all}
use Rattle.referees.specs.declared.verdict.GroupVerdict.{GroupVerdict}
use Rattle.group.specs.SeatCounts.{Within}
use Rattle.group.specs.GroupLaws.{FindsRank}
use Rattle.group.specs.SeatRules.{Report, Explains}
use Rattle.group.proofs.FinishedExchanges.{declared_sum}
use Rattle.group.proofs.Places.{all_joint, sum_lengths}
use Rattle.group.proofs.SearchFinds.{weighing_finds}
use Rattle.group.specs.GroupCalls.{State}
use Rattle.group.proofs.Numbers.{each_by_index, read_by_number, choose, zip_by_index, seat_there}
use Rattle.group.proofs.OneSeat.{some_list_explains}
use Rattle.group.proofs.Openings.{Group, Allowed}
use Rattle.group.proofs.RunStands.{length_of, Explained, Stands}

module _ {T : Type 0} {g : Group T} {accepted : ℕ → List Report} where
  module _ {lists : List (List T)} (e : Explained g accepted lists) where
    -- the list at an index explains the accepted reports of the seat of the number one more
    pub explained_at : (i : ℕ) (xs : List T) → slice_get lists i ≡ Some xs →
        Explains g.place g.lo g.hi (length_of g (suc i)) (accepted (suc i)) xs
    explained_at i xs is =
        let below = slice_get_within lists i xs is in
        subst (Explains g.place g.lo g.hi (length_of g (suc i)) (accepted (suc i))) (read_by_number lists i xs [] is)
        (e.each (suc i) (omega arith, omega (arith, e.one_a_seat)))

    -- the places of all elements are in the range
    explained_within : Each (Within g.place g.lo g.hi) lists
    explained_within = each_by_index (Within g.place g.lo g.hi) lists (λ i xs is. (explained_at i xs is).within)

    -- the declared lengths add up to the lengths of the lists
    pub explained_lengths : sum g.declared ≡ sum_by length lists
    explained_lengths =
        declared_sum g.place g.declared lists
        (zip_by_index (λ (d : ℕ) (xs : List T). length xs ≡ d) g.declared lists (sym e.one_a_seat)
        (λ i d xs at is. (explained_at i xs is).declared ∙ read_by_number g.declared i d 0 at))

    module _ (o : IsOrder g.before) where
      -- there is one element of the rank asked for
      pub one_of_rank : Allowed g →
          (x : T) × Ranked g.before g.k (joint lists) x × ((y : T) → Ranked g.before g.k (joint lists) y → y ≡ x)
      one_of_rank allowed =
          let most : g.k ≤ length (joint lists)
          = omega (arith, allowed.up_to_all, explained_lengths, sum_lengths g.place lists, length-map (joint lists) g.place) in
          let w = some_ranked o g.k (joint lists) allowed.from_1 most in
          (w.0, w.1, λ y r. ranked_unique o g.k (joint lists) y w.0 r w.1)

      module _ (x : T) (r : Ranked g.before g.k (joint lists) x) where
        -- the place of that element is in the range
        pub ranked_within : (g.lo ≤ g.place x) × (g.place x ≤ g.hi)
        ranked_within =
            let Inside : T → Type 0 = λ y. (g.lo ≤ g.place y) × (g.place y ≤ g.hi) in
            ranked_all o g.k (joint lists) Inside x (all_joint Inside lists explained_within) r

        -- the weighing of the lists finds it
        pub explained_finds : PlacesAgree g.before g.place → FindsRank g.before g.place lists g.lo g.hi g.k x
        explained_finds agrees = weighing_finds g.place o agrees lists g.lo g.hi g.k x explained_within r

  -- some lists explain the accepted reports of the seats of a round
  pub some_lists_explain : OneElementEach g.place g.lowest g.highest → Allowed g →
      {now : State} {made : List GroupVerdict} {has : ℕ → Bool} → Stands g now made accepted has →
      (lists : List (List T)) × Explained g accepted lists
  some_lists_explain each allowed {now = now} stands =
      let ExplainsAt : ℕ → List T → Type 0 = λ number xs. Explains g.place g.lo g.hi (length_of g number) (accepted number) xs in
      let chosen = choose (length g.declared) [] (λ i xs. ExplainsAt (suc i) xs) (λ i below.
      let seat = seat_there now.seats (suc i) (omega arith) (omega (arith, stands.one_a_seat)) in
      some_list_explains (stands.seats (suc i) seat.0 seat.1) g.place g.lowest g.highest each allowed.from_lowest allowed.to_highest) in
      let lists = chosen.0 in (
        lists,
        record {
          one_a_seat = chosen.1;
          each = λ number seated.
              let after : suc (number - 1) ≡ number = omega (arith, seated.0) in
              subst (λ (n : ℕ). ExplainsAt n (get_or lists (number - 1) [])) after (chosen.2 (number - 1) (omega (arith, seated.0, seated.1)));
        },
      )
