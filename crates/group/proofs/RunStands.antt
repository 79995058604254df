-- How a run stands to a trace: to its verdicts, its accepted reports, and who has reported since the last verdict.
use Rattle.std.proofs.Common.{◌≡◌, ℕ, zero, suc, ◌+◌, ◌-◌, ◌*◌, ◌^◌, ◌≤◌, Bool, false, List, [], map, length, Some, sym, refl, ap, subst, arith}
use Rattle.std.specs.List.{sum}
use Rattle.std.proofs.lemmas.List.{length-map}
use Rattle.std.proofs.lemmas.Option.{none-some}
use Rattle.std.proofs.lemmas.Simd.{map-map}
use Rattle.referees.specs.declared.verdict.GroupVerdict.{GroupVerdict}
use Rattle.runs.specs.HistoryLaw.{ExplainAll, reports_of}
use Rattle.runs.specs.Protocols.{Protocol}
use Rattle.runs.specs.Traces.{verdicts, has_reported}
use Rattle.group.specs.SeatValues.{SeatValue, new_seat, seat_number}
use Rattle.group.specs.SeatCounts.{weighed}
use Rattle.group.specs.Ranges.{target}
use Rattle.group.specs.SeatRules.{Report}
use Rattle.group.specs.declared.counts.Counts.{Counts}
use Rattle.group.specs.declared.count_bounds.CountBounds.{CountBounds}
use Rattle.group.proofs.NeverEmpty.{RankInRange, in_range_at_first}
use Rattle.group.specs.GroupCalls.{State, opened_state}
use Rattle.group.specs.Histories.{GroupTrace}
use Rattle.group.specs.GroupProtocol.{Left, left_after, target_after, declared_of, group_protocol}
use Rattle.group.proofs.Numbers.{read_by_number, read_of_map}
use Rattle.group.proofs.OneSeat.{SeatStands, seat_opened}
use Rattle.group.proofs.Openings.{Group, Allowed}
use Rattle.group.proofs.JudgeVerdicts.{AllGoOn, ByJudge}

-- what is known of each of some seats
abbrev pub all_known : List SeatValue → List CountBounds
all_known seats = map (λ value. value.known) seats

module _ {T : Type 0} (g : Group T) where
  -- its protocol
  abbrev pub protocol : Protocol ℕ Counts GroupVerdict T Report
  protocol = group_protocol g.before g.place g.declared g.lo g.hi g.k

  -- the length declared for the seat of a number
  abbrev pub length_of : ℕ → ℕ
  length_of = declared_of g.before g.place g.declared g.lo g.hi g.k

  -- lists, one a seat, explain the accepted reports of each seat
  pub record Explained (accepted : ℕ → List Report) (lists : List (List T)) : Type 0 where
    pub one_a_seat : protocol.OneASeat lists
    pub each : (number : ℕ) → protocol.Seated number → protocol.Explains number (accepted number) (protocol.list_of lists number)

  -- A round stands to verdicts, reports of each seat, and whether each has reported in this round: its range is the one to
  -- which the verdicts lead, halved by each at least, with the rank in it, and the state of each seat stands to its
  -- reports. Lists that explain the reports have these verdicts.
  pub record Stands (now : State) (made : List GroupVerdict) (accepted : ℕ → List Report) (has : ℕ → Bool) : Type 0 where
    pub rank_is : now.rank ≡ g.k
    pub total_is : now.total ≡ sum g.declared
    pub from_lo : now.lo ≡ g.lo
    pub to_hi : now.hi ≡ g.hi
    pub left_is : left_after g.lo g.hi made ≡ record { a = now.a; b = now.b }
    pub made_is : now.made ≡ length made
    pub none_done : AllGoOn made
    pub in_range : RankInRange g.k (sum g.declared) now.a now.b (all_known now.seats)
    pub halved : (now.b - now.a + 1) * 2 ^ length made ≤ g.hi - g.lo + 1
    pub one_a_seat : length now.seats ≡ length g.declared
    pub seats : (number : ℕ) (value : SeatValue) → seat_number now.seats number ≡ Some value →
        SeatStands g.lo g.hi (length_of number) made now.a now.b value (accepted number) (has number)
    pub by_judge : (lists : List (List T)) → Explained accepted lists → ByJudge (weighed g.place g.k lists) g.lo g.hi made

  -- the accepted reports of a seat in a trace
  abbrev pub reports_in : GroupTrace T → ℕ → List Report
  reports_in trace number = reports_of protocol number trace

  -- a round stands to a trace
  abbrev pub After : State → GroupTrace T → Type 0
  After now trace = Stands now (verdicts trace) (reports_in trace) (λ number. has_reported protocol.same number trace)

  -- each seat of a round just opened stands to no reports
  opened_seats : g.lo ≤ g.hi → (number : ℕ) (value : SeatValue) → seat_number (map new_seat g.declared) number ≡ Some value →
      SeatStands g.lo g.hi (length_of number) [] g.lo g.hi value [] false
  opened_seats order zero value is = absurd (none-some value is)
  opened_seats order (suc i) value is =
      let w = read_of_map new_seat g.declared i value is in
      let d : length_of (suc i) ≡ w.0 = read_by_number g.declared i w.0 0 w.1 in
      subst (λ (seat : SeatValue). SeatStands g.lo g.hi (length_of (suc i)) [] g.lo g.hi seat [] false) w.2
      (subst (λ (n : ℕ). SeatStands g.lo g.hi n [] g.lo g.hi (new_seat w.0) [] false) (sym d) (seat_opened g.lo g.hi w.0 order))

  -- a round just opened stands to the empty trace
  pub after_opening : Allowed g → After (opened_state g.declared g.lo g.hi g.k) []
  after_opening allowed = record {
    rank_is = refl;
    total_is = refl;
    from_lo = refl;
    to_hi = refl;
    left_is = refl;
    made_is = refl;
    none_done = tt;
    in_range =
        subst (RankInRange g.k (sum g.declared) g.lo g.hi) (sym (map-map (λ (value : SeatValue). value.known) new_seat g.declared))
        (in_range_at_first g.lo g.hi g.k g.declared allowed.order allowed.from_1 allowed.up_to_all);
    halved = omega arith;
    one_a_seat = length-map g.declared new_seat;
    seats = opened_seats allowed.order;
    by_judge = λ lists e. tt;
  }

module _ {T : Type 0} {g : Group T} where
  -- lists that explain the reports of a trace explain the accepted reports of each seat
  pub explains_accepted : (trace : GroupTrace T) (lists : List (List T)) → ExplainAll (protocol g) lists trace →
      Explained g (reports_in g trace) lists
  explains_accepted trace lists e = record { one_a_seat = e.one_a_seat; each = e.each }

  -- and lists that explain the accepted reports of each seat explain the reports of the trace
  pub accepted_explained : (trace : GroupTrace T) (lists : List (List T)) →
      Explained g (reports_in g trace) lists →
      ExplainAll (protocol g) lists trace
  accepted_explained trace lists e = record { one_a_seat = e.one_a_seat; each = e.each }

  -- the target asked for after the verdicts is that of the round's range
  pub target_asked : {now : State} {made : List GroupVerdict} {accepted : ℕ → List Report} {has : ℕ → Bool} →
      Stands g now made accepted has → target_after g.lo g.hi made ≡ target now.a now.b
  target_asked stands = ap (λ (left : Left). target left.a left.b) stands.left_is
