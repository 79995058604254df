-- When an answer to a report is the one that the law gives, in every protocol.
use Rattle.std.proofs.Common.{◌≡◌, List, Some, Ok, Err, refl}
use Rattle.faults.specs.declared.fault.RunFault.TheVariants.{Own}
use Rattle.faults.specs.declared.refusal.Refusal.TheVariants.{NotItsTurn, Impossible}
use Rattle.runs.specs.HistoryLaw.{Answered, Honest, InTurn, with_report, reports_of}
use Rattle.runs.specs.Protocols.{Protocol}
use Rattle.runs.specs.Traces.{Trace, verdicts}

module _ {S E V T R : Type 0} (p : Protocol S E V T R) (seat : S) (report : E) (past : Trace S E V T) where
  -- a list explains the report together with the seat's earlier ones
  abbrev pub ExplainsThis : List T → Type 0
  ExplainsThis xs = p.Explains seat (with_report p seat report past) xs

  -- the report keeps the rules after the seat's earlier ones
  abbrev pub KeepsRulesNow : Type 0
  KeepsRulesNow = p.KeepsRules seat (verdicts past) (reports_of p seat past) report

  -- a report in its turn that keeps the rules and that some list explains is to be accepted
  pub accepted_by_law : InTurn p seat past → KeepsRulesNow → (xs : List T) → ExplainsThis xs → Answered p seat report (Ok tt) past
  accepted_by_law turn keeps xs explains = record {
    in_turn = λ same. record {
      accepted_or_impossible = λ refused. absurd (refused refl);
      refused_unexplained = λ refused ys x. refused refl;
      unexplained_refused = λ none accepted. none xs explains;
      accepted_keeps_rules = λ accepted. keeps;
      keeping_rules_accepted = λ same_rules. refl;
      honest_accepted = λ ys h is. refl;
    };
    out_of_turn = λ not_its. absurd (not_its turn);
  }

  -- one that breaks them and that no list explains is to be refused as impossible, since an honest seat's own list would
  -- explain it
  pub impossible_by_law : InTurn p seat past → (KeepsRulesNow → ⊥) → ((xs : List T) → ExplainsThis xs → ⊥) →
      ((xs : List T) → Honest p seat xs past → report ≡ p.honest seat xs (verdicts past) → ExplainsThis xs) →
      Answered p seat report (Err (Own Impossible (Some (p.name seat)))) past
  impossible_by_law turn breaks none own = record {
    in_turn = λ same. record {
      accepted_or_impossible = λ refused. refl;
      refused_unexplained = λ refused. none;
      unexplained_refused = λ unexplained accepted. cc;
      accepted_keeps_rules = λ accepted. absurd cc;
      keeping_rules_accepted = λ keeps. absurd (breaks keeps);
      honest_accepted = λ xs h is. absurd (none xs (own xs h is));
    };
    out_of_turn = λ not_its. absurd (not_its turn);
  }

  -- and one out of its turn is to be refused as that
  pub out_of_turn_by_law : (InTurn p seat past → ⊥) → Answered p seat report (Err (Own NotItsTurn (Some (p.name seat)))) past
  out_of_turn_by_law not_its = record { in_turn = λ turn. absurd (not_its turn); out_of_turn = λ other. refl }
