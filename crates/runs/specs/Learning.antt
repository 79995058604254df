-- What the verdicts of a run tell a seat: what it could have written down from its own list and the result.
use Rattle.std.specs.Prelude.{◌≡◌, length}
use Rattle.runs.specs.HistoryLaw.{ExplainAll}
use Rattle.runs.specs.Protocols.{Protocol}
use Rattle.runs.specs.Traces.{Trace, verdicts}

module _ {S E V T R : Type 0} (p : Protocol S E V T R) where
  -- Lists that explain the one trace and lists that explain the other have the same list at a seat and the same element of the
  -- rank asked for.
  pub record LookAlike (seat : S) (one other : Trace S E V T) : Type 0 where
    pub lists : p.Lists
    pub explain_one : ExplainAll p lists one
    pub rebuildable : p.Rebuildable lists
    pub others : p.Lists
    pub explain_other : ExplainAll p others other
    pub others_rebuildable : p.Rebuildable others
    pub same_list : p.list_of lists seat ≡ p.list_of others seat
    pub x : T
    pub of_lists : p.IsResult lists x
    pub of_others : p.IsResult others x

  -- Where as many steps were accepted, a run then told the seat the same verdicts: it could have written them down itself.
  abbrev pub TellsTheSame : Trace S E V T → Trace S E V T → Type 0
  TellsTheSame one other =
      (seat : S) → p.Seated seat → LookAlike seat one other → length (verdicts one) ≡ length (verdicts other) → verdicts one ≡ verdicts other
