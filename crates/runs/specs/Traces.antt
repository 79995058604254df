-- Traces: the calls on a run with their answers, and what follows from them alone. A trace knows no field of a run.
use Rattle.std.specs.Prelude.{◌≡◌, ℕ, Bool, true, false, cond, List, [], ◌∷◌, Ok, Err, Option, Result}
use Rattle.faults.specs.declared.fault.RunFault.{RunFault}
use Rattle.runs.specs.Finishes.{Outcome}

-- one call with its answer, where seats S report E, verdicts are V and elements are T
pub data Event (S E V T : Type 0) : Type 0 where
  reported : S → E → Result (Unit {0}) RunFault → Event S E V T
  -- a step, with the stock of the referee that was asked
  stepped : (stock : ℕ) → Result V RunFault → Event S E V T
  -- a finish, with the stock of the referee that was asked, where a finish asks one
  finished : (stock : Option ℕ) → Result (Outcome T) RunFault → Event S E V T
  broken_off : (count : ℕ) → Event S E V T

-- the events after an accepted opening, the newest first
abbrev pub Trace : (S E V T : Type 0) → Type 0
Trace S E V T = List (Event S E V T)

-- what an event does to a run: it accepts reports, makes a verdict, or does neither
pub data Effect (S E V : Type 0) : Type 0 where
  accepts : List (S × E) → Effect S E V
  makes : V → Effect S E V
  neither : Effect S E V

-- The functions on traces below go by this alone.
abbrev pub effect : {S E V T : Type 0} → Event S E V T → Effect S E V
effect (reported seat report (Ok u)) = accepts ((seat, report) ∷ [])
effect (reported seat report (Err fault)) = neither
effect (stepped stock (Ok verdict)) = makes verdict
effect (stepped stock (Err fault)) = neither
effect (finished stock answer) = neither
effect (broken_off count) = neither

-- what reports do that came together
module _ {S E : Type 0} (same : S → S → Bool) where
  -- whether a seat made one of them, or else this
  abbrev pub made_one : S → List (S × E) → (earlier : Bool) → Bool
  made_one seat [] earlier = earlier
  made_one seat (report ∷ more) earlier = cond (same seat report.0) true (made_one seat more earlier)

  -- those that a seat made, each with what was asked, before earlier ones
  abbrev pub reports_with : {R : Type 0} → (asked : E → R) → S → List (S × E) → (earlier : List R) → List R
  reports_with asked seat [] earlier = earlier
  reports_with asked seat (report ∷ more) earlier =
      let others = reports_with asked seat more earlier in cond (same seat report.0) (asked report.1 ∷ others) others

  -- each that a seat made is this one
  abbrev pub AllAre : (this : E) → S → List (S × E) → Type 0
  AllAre this seat [] = Unit {0}
  AllAre this seat (report ∷ more) = (same seat report.0 ≡ true → report.1 ≡ this) × AllAre this seat more

-- what an event adds to the verdicts and reports before it
module _ {S E V : Type 0} where
  abbrev pub verdicts_with : Effect S E V → (earlier : List V) → List V
  verdicts_with (accepts reports) earlier = earlier
  verdicts_with (makes verdict) earlier = verdict ∷ earlier
  verdicts_with neither earlier = earlier

  abbrev pub has_reported_with : (S → S → Bool) → S → Effect S E V → (earlier : Bool) → Bool
  has_reported_with same seat (accepts reports) earlier = made_one same seat reports earlier
  has_reported_with same seat (makes verdict) earlier = false
  has_reported_with same seat neither earlier = earlier

  abbrev pub accepted_with : (S → S → Bool) → {R : Type 0} → (asked : E → R) → S → Effect S E V → (earlier : List R) → List R
  accepted_with same asked seat (accepts reports) earlier = reports_with same asked seat reports earlier
  accepted_with same asked seat (makes verdict) earlier = earlier
  accepted_with same asked seat neither earlier = earlier

  abbrev pub AcceptedAre : (S → S → Bool) → (this : E) → S → Effect S E V → Type 0
  AcceptedAre same this seat (accepts reports) = AllAre same this seat reports
  AcceptedAre same this seat (makes verdict) = Unit {0}
  AcceptedAre same this seat neither = Unit {0}

module _ {S E V T : Type 0} where
  -- the verdicts of a trace, the newest first: the answers of its accepted steps
  abbrev pub verdicts : Trace S E V T → List V
  verdicts [] = []
  verdicts (event ∷ past) = verdicts_with (effect event) (verdicts past)

  module _ (same : S → S → Bool) where
    -- whether a seat has had a report accepted since the last accepted step, or the opening
    abbrev pub has_reported : S → Trace S E V T → Bool
    has_reported seat [] = false
    has_reported seat (event ∷ past) = has_reported_with same seat (effect event) (has_reported seat past)

    -- the accepted reports of a seat, the newest first, each with what was asked when it came, which follows from the
    -- verdicts before it
    abbrev pub accepted : {R : Type 0} → (report_at : S → List V → E → R) → S → Trace S E V T → List R
    accepted report_at seat [] = []
    accepted report_at seat (event ∷ past) = accepted_with same (report_at seat (verdicts past)) seat (effect event) (accepted report_at seat past)

    -- each accepted report of a seat is the one that goes with the verdicts before it
    abbrev pub EachIs : (report_after : List V → E) → S → Trace S E V T → Type 0
    EachIs report_after seat [] = Unit {0}
    EachIs report_after seat (event ∷ past) = AcceptedAre same (report_after (verdicts past)) seat (effect event) × EachIs report_after seat past

  -- something holds of each event of a trace, with the trace before it
  abbrev pub EachEvent : (Event S E V T → Trace S E V T → Type 0) → Trace S E V T → Type 0
  EachEvent holds [] = Unit {0}
  EachEvent holds (event ∷ past) = holds event past × EachEvent holds past
