-- What the history law needs to know of a protocol, in the protocol's own terms.
use Rattle.std.specs.Prelude.{ℕ, Bool, List}
use Rattle.faults.specs.declared.seat.Seat.{Seat as Whose}

-- a protocol of seats S that report E, with verdicts V, about elements T; R is a report with what was asked
pub record Protocol (S E V T R : Type 0) : Type 1 where
  -- whether two seats are one, which seats there are, and how a refusal names one
  pub same : S → S → Bool
  pub Seated : S → Type 0
  pub name : S → Whose
  -- a seat's report with what is asked of it after these verdicts, the newest first
  pub report_at : S → List V → E → R
  -- the rules by which a seat's report is judged, after these verdicts and these accepted reports of the seat, the newest first
  pub KeepsRules : S → List V → List R → E → Type 0
  -- a list explains a seat's reports
  pub Explains : S → List R → List T → Type 0
  -- what an honest seat's list is, and its honest report after these verdicts, the newest first
  pub Fit : S → List T → Type 0
  pub honest : S → List T → List V → E
  -- one list for each seat, the list of a seat among them, and the element of the rank asked for
  pub Lists : Type 0
  pub OneASeat : Lists → Type 0
  pub list_of : Lists → S → List T
  pub IsResult : Lists → T → Type 0
  -- the verdicts, in order, that the protocol makes over lists
  pub Makes : Lists → List V → Type 0
  -- the verdicts that a seat rebuilds from its list and the element of the rank asked for, in order, and the lists for which
  -- it is promised
  pub Rebuilds : S → List T → T → List V → Type 0
  pub Rebuildable : Lists → Type 0
  -- whether a finish asks a referee, and what is promised of the number of verdicts of a finished run
  pub asks_at_finish : Bool
  pub VerdictCount : ℕ → Type 0
