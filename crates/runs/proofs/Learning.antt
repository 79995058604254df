-- What a seat learns, in every protocol in which a seat rebuilds one list of verdicts.
use Rattle.std.proofs.Common.{◌≡◌, List, ◌++◌, length, reverse, take, sym, ap, ◌∙◌, subst}
use Rattle.std.proofs.Math.Seq.{take-append_seam}
use Rattle.std.proofs.lemmas.List.{length-reverse, reverse-reverse}
use Rattle.runs.specs.HistoryLaw.{HistoryLaw}
use Rattle.runs.specs.Learning.{TellsTheSame}
use Rattle.runs.specs.Protocols.{Protocol}
use Rattle.runs.specs.Traces.{Trace, verdicts}

-- lists of one length that begin one list are the same
same_beginning : {V : Type 0} (vs ws more rest : List V) → length vs ≡ length ws → vs ++ more ≡ ws ++ rest → vs ≡ ws
same_beginning vs ws more rest long is =
    sym (take-append_seam vs more) ∙ ap (take (length vs)) is ∙ ap (λ n. take n (ws ++ rest)) long ∙ take-append_seam ws rest

-- lists of one length that, turned round, begin one list are the same
same_newest : {V : Type 0} (vs ws more rest : List V) → length vs ≡ length ws → reverse vs ++ more ≡ reverse ws ++ rest → vs ≡ ws
same_newest vs ws more rest long is =
    let long_too = length-reverse vs ∙ long ∙ sym (length-reverse ws) in
    sym (reverse-reverse vs) ∙ ap reverse (same_beginning (reverse vs) (reverse ws) more rest long_too is) ∙ reverse-reverse ws

module _ {S E V T R : Type 0} (p : Protocol S E V T R) where
  -- from its list and x a seat rebuilds one list of verdicts
  abbrev pub OneRebuild : Type 0
  OneRebuild = (seat : S) (xs : List T) (x : T) (vs ws : List V) → p.Rebuilds seat xs x vs → p.Rebuilds seat xs x ws → vs ≡ ws

  -- so runs that keep the law and look alike to a seat tell it the same
  pub tells_the_same : OneRebuild → (one other : Trace S E V T) → HistoryLaw p one → HistoryLaw p other → TellsTheSame p one other
  tells_the_same once one other law other_law seat seated alike long =
      let first = law.first_rebuilt alike.lists alike.explain_one alike.rebuildable alike.x alike.of_lists in
      let second = other_law.first_rebuilt alike.others alike.explain_other alike.others_rebuildable alike.x alike.of_others in
      let all = reverse (verdicts one) ++ first.0 in
      let here : p.Rebuilds seat (p.list_of alike.others seat) alike.x all
      = subst (λ (xs : List T). p.Rebuilds seat xs alike.x all) alike.same_list (first.1 seat seated) in
      same_newest (verdicts one) (verdicts other) first.0 second.0 long
      (once seat (p.list_of alike.others seat) alike.x all (reverse (verdicts other) ++ second.0) here (second.1 seat seated))
