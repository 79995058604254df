-- How a closing run stands to a trace: a round stood to the verdicts before the last one, and that was done.
use Rattle.std.proofs.Common.{◌≡◌, ℕ, ◌^◌, ◌<◌, Bool, List, [], ◌∷◌, ◌++◌, length, reverse, Ok, sym, refl, ap, ap₂, ◌∙◌, subst}
use mathlib.Core.List.{reverse_aux-eq}
use Rattle.elements.specs.Orders.{IsOrder, PlacesAgree}
use Rattle.elements.specs.Ranks.{joint, Ranked}
use Rattle.referees.specs.declared.verdict.GroupVerdict.{GroupVerdict}
use Rattle.referees.specs.declared.verdict.GroupVerdict.TheVariants.{Done}
use Rattle.runs.specs.Traces.{stepped, verdicts, has_reported}
use Rattle.group.specs.SeatCounts.{weighed}
use Rattle.group.specs.Ranges.{target}
use Rattle.group.specs.Searches.{Search}
use Rattle.group.specs.SeatRules.{Report}
use Rattle.group.specs.GroupCalls.{State, moved_state}
use Rattle.group.specs.Histories.{GroupTrace}
use Rattle.group.specs.GroupProtocol.{Left, left_after, target_after}
use Rattle.group.proofs.ReportAnswers.{WeighsAll}
use Rattle.group.proofs.TraceLists.{explained_finds}
use Rattle.group.proofs.Openings.{Group}
use Rattle.group.proofs.RunStands.{protocol, Explained, Stands, reports_in, After, target_asked}
use Rattle.group.proofs.AfterStep.{ends_stay, one_more_counted, verdict_of_lists}
use Rattle.group.proofs.JudgeVerdicts.{run_done, run_goes_on}

module _ {T : Type 0} (g : Group T) where
  -- a round is closed after verdicts and reports of each seat
  pub record Closed (now : State) (made : List GroupVerdict) (accepted : ℕ → List Report) : Type 0 where
    pub past : State
    pub older : List GroupVerdict
    pub has : ℕ → Bool
    pub stood : Stands g past older accepted has
    pub made_so : made ≡ Done ∷ older
    pub done : (lists : List (List T)) → Explained g accepted lists → weighed g.place g.k lists (target past.a past.b) ≡ Done
    pub from_lo : now.lo ≡ g.lo
    pub to_hi : now.hi ≡ g.hi
    pub left_is : left_after g.lo g.hi made ≡ record { a = now.a; b = now.b }
    pub made_is : now.made ≡ length made

  -- a round is closed after a trace
  abbrev pub ClosedAfter : State → GroupTrace T → Type 0
  ClosedAfter now trace = Closed now (verdicts trace) (reports_in g trace)

module _ {T : Type 0} {g : Group T} where
  -- done closes a round that stands to a trace
  pub after_done : {old : State} (trace : GroupTrace T) → After g old trace → WeighsAll old Done → (stock : ℕ) → g.hi < 2 ^ 64 →
      ClosedAfter g (moved_state Done old) (stepped stock (Ok Done) ∷ trace)
  after_done {old = old} trace after w stock small =
      let stay = ends_stay Done old.a old.b after.in_range.order tt in
      record {
        past = old;
        older = verdicts trace;
        has = λ number. has_reported (protocol g).same number trace;
        stood = after;
        made_so = refl;
        done = verdict_of_lists trace after w;
        from_lo = after.from_lo;
        to_hi = after.to_hi;
        left_is = after.left_is ∙ ap₂ {C = Left} (λ (a b : ℕ). record { a = a; b = b }) (sym stay.0) (sym stay.1);
        made_is = one_more_counted trace after small;
      }

  -- done leaves the range as it was, and so the target
  pub closed_target : {now : State} {made : List GroupVerdict} {accepted : ℕ → List Report} (closed : Closed g now made accepted) →
      target_after g.lo g.hi closed.older ≡ target now.a now.b
  closed_target closed =
      ap (target_after g.lo g.hi) (sym closed.made_so) ∙ ap (λ (left : Left). target left.a left.b) closed.left_is

  module _ (o : IsOrder g.before) (agrees : PlacesAgree g.before g.place) {accepted : ℕ → List Report} {lists : List (List T)}
      (e : Explained g accepted lists) (x : T) (r : Ranked g.before g.k (joint lists) x) where
    -- the verdicts to which a round stands, in order, begin the weighing of all lists that explain the reports, and the rest
    -- is the weighing of them from the range on to which the verdicts lead
    pub begins_weighing : {now : State} {made : List GroupVerdict} {has : ℕ → Bool} → Stands g now made accepted has →
        let left = left_after g.lo g.hi made in
        (rest : List GroupVerdict) × Search (weighed g.place g.k lists) g.lo g.hi (reverse made ++ rest) (g.place x)
        × Search (weighed g.place g.k lists) left.a left.b rest (g.place x)
    begins_weighing {made = made} stands =
        let judge = weighed g.place g.k lists in
        let some = (explained_finds e o x r agrees).some_search in
        let w = run_goes_on judge g.lo g.hi made stands.none_done (stands.by_judge lists e) some.1 in
        (w.0, subst (λ (all : List GroupVerdict). Search judge g.lo g.hi all (g.place x)) w.1 some.1, w.2)

    -- those after which a round is closed are all of it, and it ends at the round's target
    pub is_weighing : {now : State} {made : List GroupVerdict} → Closed g now made accepted →
        Search (weighed g.place g.k lists) g.lo g.hi (reverse made) (g.place x) × (g.place x ≡ target now.a now.b)
    is_weighing {made = made} closed =
        let judge = weighed g.place g.k lists in
        let begins = begins_weighing closed.stood in
        let last = run_done judge (ap judge (target_asked closed.stood) ∙ closed.done lists e) begins.2 in
        let all : reverse closed.older ++ begins.0 ≡ reverse made
        = ap (λ (rest : List GroupVerdict). reverse closed.older ++ rest) last.0
        ∙ sym (reverse_aux-eq closed.older (Done ∷ [])) ∙ ap reverse (sym closed.made_so) in
        (subst (λ (vs : List GroupVerdict). Search judge g.lo g.hi vs (g.place x)) all begins.1, last.1 ∙ closed_target closed)
