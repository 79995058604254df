-- A round of reports of honest seats: the first list that is refused ends it, and else both reports are accepted.
use Rattle.std.proofs.Common.{◌≡◌, ℕ, Bool, false, List, ◌∷◌, ◌⊎◌, Some, None, Ok, Err, Result, sym, refl, ap, ◌∙◌, subst, inl, inr}
use Rattle.elements.specs.declared.entry.Entry.{Entry}
use Rattle.faults.specs.declared.fault.RunFault.{RunFault}
use Rattle.faults.specs.declared.fault.RunFault.TheVariants.{OfSeat}
use Rattle.faults.specs.declared.fault.SeatFault.TheVariants.{Own}
use Rattle.faults.specs.declared.refusal.Refusal.{Refusal}
use Rattle.pair.specs.Sides.{seat_of}
use Rattle.pair.specs.declared.side.Side.{Side}
use Rattle.pair.specs.declared.side.Side.TheVariants.{A, B}
use Rattle.pair.proofs.BisectionSteps.{both_sides}
use Rattle.runs.specs.Traces.{reported, has_reported, EachIs}
use Rattle.pair.specs.PairCalls.{Reports, progress_of, with_given, with_progress}
use Rattle.pair.specs.Histories.{PairTrace, going, report}
use Rattle.pair.specs.declared.progress.Progress.{Progress}
use Rattle.pair.specs.declared.run.StagedRun.{StagedRun}
use Rattle.pair.specs.declared.run.StagedRun.TheVariants.{Comparing, Closing}
use Rattle.pair.specs.PairProtocol.{same_side, honest}
use Rattle.seats.specs.ListRefusals.{IsListRefusal}
use Rattle.seats.specs.SeatReports.{row_entry}
use Rattle.seats.specs.HonestRuns.{declared_lengths}
use Rattle.seats.specs.HonestRounds.{ReportsOne, ReportsBoth}
use Rattle.seats.proofs.Honesty.{Opened, HonestHistory, entry_is_honest, honest_accepted}

module _ {T : Type 0} where
  -- a stage with another progress has that progress
  progress_left : (left : Progress T) (stage : StagedRun T) → progress_of (with_progress left stage) ≡ left
  progress_left left (Comparing run) = refl
  progress_left left (Closing run) = refl

  -- of two that are put in turn the last one stays
  last_progress_left : (between left : Progress T) (stage : StagedRun T) → with_progress left (with_progress between stage) ≡ with_progress left stage
  last_progress_left between left (Comparing run) = refl
  last_progress_left between left (Closing run) = refl

module _ {T : Type 0} (before : T → T → Bool) (lists : Side → List T) where
  -- a seat's list is refused, and its report is answered with the refusal
  abbrev pub Refuses : Side → Result (Unit {0}) RunFault → Type 0
  Refuses side answer =
      (refusal : Refusal) × IsListRefusal before (lists side) (Some refusal) × (answer ≡ Err (OfSeat (Own refusal (Some (seat_of side)))))

  -- A's list is refused, or B's and not A's
  abbrev pub RefusesOne : Result (Unit {0}) RunFault → Type 0
  RefusesOne answer = Refuses A answer ⊎ (IsListRefusal before (lists A) None × Refuses B answer)

  module _ (sample : T) (k : ℕ) (start : StagedRun T) (past : PairTrace T) (stage : StagedRun T) where
    -- a seat whose list is not refused has had the report of an entry accepted
    pub record Reported (side : Side) (left : Progress T) : Type 0 where
      pub entry : Entry T
      pub unrefused : IsListRefusal before (lists side) None
      pub left_is : left ≡ with_given side entry (progress_of stage)
      pub honestly : HonestHistory before sample lists k start (reported side entry (Ok tt) ∷ past) (going (with_progress left stage))

    -- both seats have, of lists that are not refused
    pub record ReportedBoth (left : Progress T) : Type 0 where
      pub a : Entry T
      pub b : Entry T
      pub unrefused : (side : Side) → IsListRefusal before (lists side) None
      pub left_is : left ≡ with_given B b (with_given A a (progress_of stage))
      pub honestly : HonestHistory before sample lists k start (reported B b (Ok tt) ∷ reported A a (Ok tt) ∷ past) (going (with_progress left stage))

module _ {T : Type 0} {before : T → T → Bool} {sample : T} {lists : Side → List T} {k : ℕ} {start : StagedRun T}
    (opened : Opened before sample lists k start) where
  module _ {past : PairTrace T} {stage : StagedRun T} (h : HonestHistory before sample lists k start past (going stage)) where
    -- the entry that a seat is asked for
    abbrev entry_of : Side → Entry T
    entry_of side = row_entry side (progress_of stage).window (lists side)

    -- once that is accepted, every report of either seat is still honest
    reports_with : (side other : Side) →
        EachIs same_side (honest before (declared_lengths lists) k other (lists other)) other (reported side (entry_of side) (Ok tt) ∷ past)
    reports_with A A = ((λ same. entry_is_honest opened h A, tt), h.reports A)
    reports_with A B = ((λ same. absurd cc, tt), h.reports B)
    reports_with B A = ((λ same. absurd cc, tt), h.reports A)
    reports_with B B = ((λ same. entry_is_honest opened h B, tt), h.reports B)

    -- a seat's list is refused, or its report is accepted
    report_of_one : (side : Side) (answer : Result (Unit {0}) RunFault) (left : Progress T) → has_reported same_side side past ≡ false →
        ReportsOne before side (lists side) (progress_of stage) answer left →
        Refuses before lists side answer ⊎ ((answer ≡ Ok tt) × Reported before lists sample k start past stage side left)
    report_of_one side answer left not_yet (Some refusal, is, e) = inl (refusal, is, e.0)
    report_of_one side answer left not_yet (None, unrefused, r) =
        let accepted = honest_accepted opened h side answer left not_yet unrefused r in
        let taken
        = subst (λ (a : Result (Unit {0}) RunFault). Reports before side (entry_of side) (progress_of stage) a left) accepted r in
        inr (
          accepted,
          record {
            entry = entry_of side;
            unrefused = unrefused;
            left_is = taken.1;
            honestly = record { history = report side (entry_of side) (Ok tt) left h.history taken; reports = reports_with side };
          },
        )

  module _ {past : PairTrace T} {stage : StagedRun T} (not_yet : (side : Side) → has_reported same_side side past ≡ false) (left : Progress T) where
    -- once A's report is accepted, B's list is refused, or its report is accepted too
    report_after_a : (answer : Result (Unit {0}) RunFault) {between : Progress T} → Reported before lists sample k start past stage A between →
        ReportsOne before B (lists B) between answer left →
        RefusesOne before lists answer ⊎ ((answer ≡ Ok tt) × ReportedBoth before lists sample k start past stage left)
    report_after_a answer {between = between} a second =
        let come = progress_left between stage in
        let second_there = subst (λ (p : Progress T). ReportsOne before B (lists B) p answer left) (sym come) second in
        elim (report_of_one a.honestly B answer left (not_yet B) second_there) [
          | inl refused ↦ inl (inr (a.unrefused, refused))
          | inr (accepted, b) ↦
              inr (
                accepted,
                record {
                  a = a.entry;
                  b = b.entry;
                  unrefused = both_sides (λ side. IsListRefusal before (lists side) None) A a.unrefused b.unrefused;
                  left_is = b.left_is ∙ ap (with_given B b.entry) (come ∙ a.left_is);
                  honestly =
                      subst (λ (s : StagedRun T).
                      HonestHistory before sample lists k start (reported B b.entry (Ok tt) ∷ reported A a.entry (Ok tt) ∷ past) (going s))
                      (last_progress_left between left stage) b.honestly;
                },
              )
        ]

    -- a list is refused, or both reports are accepted
    report_of_both : HonestHistory before sample lists k start past (going stage) → (answer : Result (Unit {0}) RunFault) →
        ReportsBoth before lists (progress_of stage) answer left →
        RefusesOne before lists answer ⊎ ((answer ≡ Ok tt) × ReportedBoth before lists sample k start past stage left)
    report_of_both h answer (between, Ok u, first, second) = elim (report_of_one h A (Ok u) between (not_yet A) first) [
      | inl refused ↦ absurd cc
      | inr (accepted, a) ↦ report_after_a answer a second
    ]
    report_of_both h answer (between, Err fault, first, second) = elim (report_of_one h A (Err fault) between (not_yet A) first) [
      | inl refused ↦ inl (inl (refused.0, refused.1, second.0 ∙ refused.2))
      | inr (accepted, a) ↦ absurd cc
    ]

    -- so where all reports of a round are accepted, both seats have reported
    pub accepted_reports : HonestHistory before sample lists k start past (going stage) → (u : Unit {0}) →
        ReportsBoth before lists (progress_of stage) (Ok u) left → ReportedBoth before lists sample k start past stage left
    accepted_reports h u reports = elim (report_of_both h (Ok u) reports) [
      | inl refused ↦ elim refused [ inl a ↦ absurd cc | inr b ↦ absurd cc ]
      | inr (accepted, both) ↦ both
    ]

    -- and one that comes to a fault has that of a refused list
    pub refused_reports : HonestHistory before sample lists k start past (going stage) → (fault : RunFault) →
        ReportsBoth before lists (progress_of stage) (Err fault) left → RefusesOne before lists (Err fault)
    refused_reports h fault reports = elim (report_of_both h (Err fault) reports) [ inl refused ↦ refused | inr (accepted, both) ↦ absurd cc ]
