-- The reports of a round of honest seats: all are accepted, or the first list that is refused ends them.
use Rattle.std.proofs.Common.{◌≡◌, ℕ, suc, ◌+◌, ◌-◌, ◌<◌, ◌≤◌, Bool, true, false, cond, List, [], ◌∷◌, length, get_or, Some, None, Ok, Err, Result, inl, inr, sym, refl, ap, ◌∙◌, subst, arith}
use Rattle.std.proofs.lemmas.Bool.{eq-eqb, ne_eqb, cases_order}
use Rattle.rankunit.specs.Faults.declared.fault.RunFault.{RunFault}
use Rattle.rankunit.specs.Group.Histories.{GroupTrace, going}
use Rattle.rankunit.specs.Group.declared.counts.Counts.{Counts}
use Rattle.rankunit.specs.Group.declared.run.Run.{Run}
use Rattle.rankunit.specs.Group.declared.run.StagedRun.TheVariants.{Comparing as StillComparing}
use Rattle.rankunit.specs.Runs.Traces.{reported, verdicts, has_reported}
use Rattle.rankunit.specs.Runs.declared.stage.Comparing.{Comparing}
use Rattle.rankunit_c.specs.GroupRounds.{ReportsOne, ReportsFrom}
use Rattle.rankunit_c.proofs.HonestGroups.{same, HonestGroup, FirstIs, list_of, Lawful, HonestHistory, Comes, report_comes}

module _ {T : Type 0} (g : HonestGroup T) where
  abbrev Honestly : Run T Comparing → GroupTrace T → Type 0
  Honestly run trace = HonestHistory g trace (going (StillComparing run))

  -- the seats below a number have reported in this round, and no other has
  pub record ReportedBelow (number : ℕ) (trace : GroupTrace T) : Type 0 where
    pub below : (other : ℕ) → 1 ≤ other → other < number → has_reported same other trace ≡ true
    pub from : (other : ℕ) → number ≤ other → has_reported same other trace ≡ false

  -- some lists are those from the seat of a number on
  pub record ListsFrom (number : ℕ) (later : List (List T)) : Type 0 where
    pub first : 1 ≤ number
    pub each : (i : ℕ) → get_or g.lists (number - 1 + i) [] ≡ get_or later i []
    pub all : number + length later ≡ length g.lists + 1

  -- once a seat has reported, the seats below the next number have
  reported_next : (number : ℕ) (past : GroupTrace T) → ReportedBelow number past → (counts : Counts) →
      ReportedBelow (number + 1) (reported number counts (Ok tt) ∷ past)
  reported_next number past so counts = record {
    below = λ other first last. elim (cases_order other number) [
      | inl this ↦ ap (λ (b : Bool). cond b true (has_reported same other past)) (eq-eqb other number this)
      | inr off ↦
          ap (λ (b : Bool). cond b true (has_reported same other past)) (ne_eqb other number (λ this. omega (arith, this, off)))
          ∙ so.below other first (omega (arith, last, off))
    ];
    from = λ other later.
        ap (λ (b : Bool). cond b true (has_reported same other past)) (ne_eqb other number (λ this. omega (arith, this, later)))
        ∙ so.from other (omega (arith, later));
  }

  -- the lists after the first are those from the next seat on
  lists_next : (number : ℕ) (xs : List T) (later : List (List T)) → ListsFrom number (xs ∷ later) → ListsFrom (number + 1) later
  lists_next number xs later from = record {
    first = omega arith;
    each = λ i.
        let next : number + 1 - 1 + i ≡ number - 1 + suc i = omega (arith, from.first) in
        ap (λ (n : ℕ). get_or g.lists n []) next ∙ from.each (suc i);
    all = omega (arith, from.all);
  }

  -- the first of them is the list of that seat
  first_is : (number : ℕ) (xs : List T) (later : List (List T)) → ListsFrom number (xs ∷ later) →
      list_of g number ≡ xs
  first_is number xs later from = let here : number - 1 ≡ number - 1 + 0 = omega arith in ap (λ (n : ℕ). get_or g.lists n []) here ∙ from.each 0

  -- all seats have reported, of lists that are not refused
  pub record AllAccepted (number : ℕ) (later : List (List T)) (past : GroupTrace T) (left : Run T Comparing) : Type 0 where
    pub trace : GroupTrace T
    pub honestly : Honestly left trace
    pub no_verdict : verdicts trace ≡ verdicts past
    pub all : (other : ℕ) → 1 ≤ other → other ≤ length g.lists → has_reported same other trace ≡ true
    pub none : FirstIs g number later None

  abbrev pub ReportsCome : (number : ℕ) → List (List T) → GroupTrace T → Run T Comparing → Result (Unit {0}) RunFault → Type 0
  ReportsCome number later past left (Ok u) = AllAccepted number later past left
  ReportsCome number later past left (Err fault) = FirstIs g number later (Some fault)

  module _ (lawful : Lawful g) where
    -- so its report is accepted, or its list is refused
    first_comes : (number : ℕ) (xs : List T) (later : List (List T)) → ListsFrom number (xs ∷ later) → (past : GroupTrace T) (run : Run T Comparing) →
        (h : Honestly run past) → ReportedBelow number past → (answer : Result (Unit {0}) RunFault) (left : Run T Comparing) →
        ReportsOne g.before g.place number xs run answer left → Comes g lawful h number left answer
    first_comes number xs later from past run h so answer left one =
        let of_seat = subst (λ (ys : List T). ReportsOne g.before g.place number ys run answer left) (sym (first_is number xs later from)) one in
        report_comes g lawful h number from.first (omega (arith, from.all)) (so.from number (omega arith)) answer left of_seat

    pub reports_come : (number : ℕ) (later : List (List T)) → ListsFrom number later → (past : GroupTrace T) (run : Run T Comparing) → Honestly run past →
        ReportedBelow number past → (answer : Result (Unit {0}) RunFault) (left : Run T Comparing) →
        ReportsFrom g.before g.place number later run answer left → ReportsCome number later past left answer
    reports_come number [] from past run h so (Ok u) left (e, stays) = record {
      trace = past;
      honestly = subst (λ (r : Run T Comparing). Honestly r past) (sym stays) h;
      no_verdict = refl;
      all = λ other first last. so.below other first (omega (arith, last, from.all));
      none = refl;
    }
    reports_come number [] from past run h so (Err fault) left (e, stays) = absurd cc
    reports_come number (xs ∷ later) from past run h so (Ok v) left (between, Ok u, one, follows) =
        let comes = first_comes number xs later from past run h so (Ok u) between one in
        let so_now = reported_next number past so comes.1.0 in
        let rest = reports_come (number + 1) later (lists_next number xs later from) _ between comes.1.1 so_now (Ok v) left follows in
        record {
          trace = rest.trace;
          honestly = rest.honestly;
          no_verdict = rest.no_verdict;
          all = rest.all;
          none = (None, rw (first_is number xs later from) at comes.0, rest.none);
        }
    reports_come number (xs ∷ later) from past run h so (Err fault) left (between, Ok u, one, follows) =
        let comes = first_comes number xs later from past run h so (Ok u) between one in
        let so_now = reported_next number past so comes.1.0 in
        let rest = reports_come (number + 1) later (lists_next number xs later from) _ between comes.1.1 so_now (Err fault) left follows in
        (None, rw (first_is number xs later from) at comes.0, rest)
    reports_come number (xs ∷ later) from past run h so (Ok v) left (between, Err refused, one, follows) = let e = follows.0 in absurd cc
    reports_come number (xs ∷ later) from past run h so (Err fault) left (between, Err refused, one, follows) =
        let comes = first_comes number xs later from past run h so (Err refused) between one in
        let e = follows.0 in
        let is = comes.2 in
        (Some comes.0, rw (first_is number xs later from) at comes.1, cc)
