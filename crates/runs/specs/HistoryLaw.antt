-- The history law, one text for every protocol. It speaks of a trace and of lists, and of no field of a run.
use Rattle.std.specs.Prelude.{◌≡◌, ℕ, ◌<◌, true, false, List, ◌∷◌, ◌++◌, length, reverse, Some, None, Ok, Err, Option, Result, is_some}
use Rattle.faults.specs.declared.fault.RunFault.{RunFault}
use Rattle.faults.specs.declared.fault.RunFault.TheVariants.{Own}
use Rattle.faults.specs.declared.refusal.Refusal.TheVariants.{NotItsTurn, Impossible, ReportMissing, StockEmpty}
use Rattle.runs.specs.Finishes.{Outcome}
use Rattle.runs.specs.Protocols.{Protocol}
use Rattle.runs.specs.Traces.{Event, reported, stepped, finished, broken_off, Trace, verdicts, has_reported, accepted, EachIs, EachEvent}

module _ {S E V T R : Type 0} (p : Protocol S E V T R) where
  -- the accepted reports of a seat, the newest first
  abbrev pub reports_of : S → Trace S E V T → List R
  reports_of seat trace = accepted p.same p.report_at seat trace

  -- those and one more, which comes after this trace
  abbrev pub with_report : S → E → Trace S E V T → List R
  with_report seat report past = p.report_at seat (verdicts past) report ∷ reports_of seat past

  -- lists, one a seat, that explain the accepted reports
  pub record ExplainAll (lists : p.Lists) (trace : Trace S E V T) : Type 0 where
    pub one_a_seat : p.OneASeat lists
    pub each : (seat : S) → p.Seated seat → p.Explains seat (reports_of seat trace) (p.list_of lists seat)

  -- an honest seat's list, of which each accepted report of the seat is the honest one
  pub record Honest (seat : S) (xs : List T) (trace : Trace S E V T) : Type 0 where
    pub fit : p.Fit seat xs
    pub reports : EachIs p.same (p.honest seat xs) seat trace

  -- the seat exists and has had no report accepted since the last accepted step, or the opening
  pub record InTurn (seat : S) (past : Trace S E V T) : Type 0 where
    pub seated : p.Seated seat
    pub not_yet : has_reported p.same seat past ≡ false

  -- a report in its turn is refused, as impossible, exactly if no list explains it together with the earlier ones, which is
  -- exactly if it breaks the rules
  pub record Judged (seat : S) (report : E) (answer : Result (Unit {0}) RunFault) (past : Trace S E V T) : Type 0 where
    pub accepted_or_impossible : (answer ≡ Ok tt → ⊥) → answer ≡ Err (Own Impossible (Some (p.name seat)))
    pub refused_unexplained : (answer ≡ Ok tt → ⊥) → (xs : List T) → p.Explains seat (with_report seat report past) xs → ⊥
    pub unexplained_refused : ((xs : List T) → p.Explains seat (with_report seat report past) xs → ⊥) → answer ≡ Ok tt → ⊥
    pub accepted_keeps_rules : answer ≡ Ok tt → p.KeepsRules seat (verdicts past) (reports_of seat past) report
    pub keeping_rules_accepted : p.KeepsRules seat (verdicts past) (reports_of seat past) report → answer ≡ Ok tt
    -- so that an honest seat is never refused
    pub honest_accepted : (xs : List T) → Honest seat xs past → report ≡ p.honest seat xs (verdicts past) → answer ≡ Ok tt

  -- a report is judged in its turn, and out of it is answered 13
  pub record Answered (seat : S) (report : E) (answer : Result (Unit {0}) RunFault) (past : Trace S E V T) : Type 0 where
    pub in_turn : InTurn seat past → Judged seat report answer past
    pub out_of_turn : (InTurn seat past → ⊥) → answer ≡ Err (Own NotItsTurn (Some (p.name seat)))

  -- each seat has had a report accepted since the last accepted step, or the opening; or some seat has not
  abbrev pub AllReported : Trace S E V T → Type 0
  AllReported past = (seat : S) → p.Seated seat → has_reported p.same seat past ≡ true

  abbrev pub SomeMissing : Trace S E V T → Type 0
  SomeMissing past = (seat : S) × p.Seated seat × (has_reported p.same seat past ≡ false)

  -- A question about the round's reports, put to a referee of some stock, is refused 15 exactly if a report is missing, else 16
  -- exactly if the stock is 0, and else it is accepted: one of the three answers is due.
  pub data Asked (stock : ℕ) {X : Type 0} : Result X RunFault → Trace S E V T → Type 0 where
    missing : {past : Trace S E V T} → SomeMissing past → Asked stock (Err (Own ReportMissing None)) past
    empty : {past : Trace S E V T} → AllReported past → stock ≡ 0 → Asked stock (Err (Own StockEmpty None)) past
    answered : {past : Trace S E V T} (x : X) → AllReported past → 0 < stock → Asked stock (Ok x) past

  -- the verdicts, in order, are those that each seat rebuilds from its list and x
  abbrev pub Rebuilt : p.Lists → T → List V → Type 0
  Rebuilt lists x all = (seat : S) → p.Seated seat → p.Rebuilds seat (p.list_of lists seat) x all

  -- an accepted finish after a trace: its result is the element of the rank asked for, whatever lists explain the reports;
  -- its count is that of the accepted steps; and the verdicts are all that the protocol makes over such lists, and all that
  -- each seat rebuilds
  pub record FinishLaw (outcome : Outcome T) (past : Trace S E V T) : Type 0 where
    pub result_is : (lists : p.Lists) → ExplainAll lists past → p.IsResult lists outcome.result
    pub count_is : outcome.count ≡ length (verdicts past)
    pub count_fits : p.VerdictCount outcome.count
    pub all_made : (lists : p.Lists) → ExplainAll lists past → p.Makes lists (reverse (verdicts past))
    pub all_rebuilt : (lists : p.Lists) → ExplainAll lists past → p.Rebuildable lists → (x : T) → p.IsResult lists x →
        Rebuilt lists x (reverse (verdicts past))

  abbrev pub FinishedRightly : Result (Outcome T) RunFault → Trace S E V T → Type 0
  FinishedRightly (Ok outcome) past = FinishLaw outcome past
  FinishedRightly (Err fault) past = Unit {0}

  -- a finish that asks a referee is answered as a step is, and one that asks nobody is accepted
  abbrev pub AskedIfAny : Option ℕ → Result (Outcome T) RunFault → Trace S E V T → Type 0
  AskedIfAny (Some stock) answer past = Asked stock answer past
  AskedIfAny None answer past = (outcome : Outcome T) × (answer ≡ Ok outcome)

  -- what the law says of each event, with the trace before it: a finish asks a referee exactly where the protocol's does, and a
  -- break-off answers the number of verdicts made
  abbrev pub Lawful : Event S E V T → Trace S E V T → Type 0
  Lawful (reported seat report answer) past = Answered seat report answer past
  Lawful (stepped stock answer) past = Asked stock answer past
  Lawful (finished stock answer) past = (is_some stock ≡ p.asks_at_finish) × AskedIfAny stock answer past × FinishedRightly answer past
  Lawful (broken_off count) past = count ≡ length (verdicts past)

  pub record HistoryLaw (trace : Trace S E V T) : Type 0 where
    -- some lists explain the accepted reports, an honest seat's own list is one, and whatever lists do, there is one element
    -- of the rank asked for
    pub some_lists : (lists : p.Lists) × ExplainAll lists trace
    pub own_list : (seat : S) → p.Seated seat → (xs : List T) → Honest seat xs trace → p.Explains seat (reports_of seat trace) xs
    pub one_result : (lists : p.Lists) → ExplainAll lists trace → (x : T) × p.IsResult lists x × ((y : T) → p.IsResult lists y → y ≡ x)
    -- the verdicts are the first of those that the protocol makes over whatever lists explain the reports
    pub first_made : (lists : p.Lists) → ExplainAll lists trace → (rest : List V) × p.Makes lists (reverse (verdicts trace) ++ rest)
    -- the verdicts are the first of those that each seat rebuilds from its list and the element of the rank asked for
    pub first_rebuilt : (lists : p.Lists) → ExplainAll lists trace → p.Rebuildable lists → (x : T) → p.IsResult lists x →
        (rest : List V) × Rebuilt lists x (reverse (verdicts trace) ++ rest)
    pub events : EachEvent Lawful trace
