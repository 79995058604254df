-- What each call on the run of a pair answers, and what it leaves.
use Rattle.std.specs.Prelude.{◌≡◌, ℕ, ◌+◌, Bool, false, cond, not, ◌||◌, [], ◌∷◌, Some, None, Ok, Err, Option, Result, is_some, ◌==◌, nat_lt}
use Rattle.elements.specs.Entries.{lesser_entry}
use Rattle.elements.specs.declared.entry.Entry.{Entry}
use Rattle.elements.specs.declared.entry.Entry.TheVariants.{Below, Element, Above}
use Rattle.faults.specs.declared.fault.RunFault.{RunFault}
use Rattle.faults.specs.declared.fault.RunFault.TheVariants.{Own}
use Rattle.faults.specs.declared.refusal.Refusal.{Refusal}
use Rattle.faults.specs.declared.refusal.Refusal.TheVariants.{ListTooLong, RankOutOfBounds, NotItsTurn, Impossible}
use Rattle.referees.specs.Verdicts.{first_of}
use Rattle.referees.specs.declared.verdict.PairVerdict.{PairVerdict}
use Rattle.pair.specs.SeatBounds.{passes}
use Rattle.pair.specs.Sides.{seat_of}
use Rattle.pair.specs.Bisection.{OfSides}
use Rattle.pair.specs.declared.side.Side.{Side}
use Rattle.pair.specs.declared.side.Side.TheVariants.{A, B}
use Rattle.runs.specs.Answers.{question_answer}
use Rattle.faults.specs.RefusalOrder.{check, first_check, answered}
use Rattle.elements.specs.Limits.{longest_list, saturated}
use Rattle.runs.specs.Finishes.{Outcome}
use Rattle.runs.specs.Slips.{spent}
use Rattle.runs.specs.declared.slip.Slip.{Slip}
use Rattle.pair.specs.HalvedWindow.{IsWhole, Halves, offset_of}
use Rattle.pair.specs.SeatStates.{new_seat, seat_reporting, seat_after, state_of_side}
use Rattle.pair.specs.declared.progress.Progress.{Progress}
use Rattle.runs.specs.declared.stage.Closing.{Closing}
use Rattle.runs.specs.declared.stage.Comparing.{Comparing}
use Rattle.runs.specs.declared.refused.Refused.{Refused}
use Rattle.pair.specs.declared.run.Advanced.{Advanced}
use Rattle.pair.specs.declared.run.OfPair.{OfPair}
use Rattle.pair.specs.declared.run.Run.{Run}
use Rattle.pair.specs.declared.run.StagedRun.{StagedRun}
use Rattle.pair.specs.declared.run.StagedRun.TheVariants.{Comparing as StillComparing, Closing as NowClosing}

-- what a step comes to; a refused one gives back the run
abbrev pub Stepped : Type 0 → Type 0
Stepped T = Result (Advanced T) (Refused (Run T Comparing))

-- what a finish comes to; a refused one gives back run and slip
abbrev pub Ending : Type 0 → Type 0
Ending T = Result (Outcome T) (Refused (Run T Closing × Slip OfPair T))

-- Opening: 9 where a length is over 65,536, then 11 where the rank is 0 or above the sum of the lengths.
abbrev pub opening_refusal : OfSides → (rank : ℕ) → Option Refusal
opening_refusal declared rank =
    first_check (check (nat_lt longest_list (declared A) || nat_lt longest_list (declared B)) ListTooLong
    ∷ check (rank == 0 || nat_lt (declared A + declared B) rank) RankOutOfBounds
    ∷ [])

module _ {T : Type 0} where
  -- a question about both reports of the round needs both
  abbrev pub both_given : Option (Entry T) → Option (Entry T) → Option (Entry T × Entry T)
  both_given (Some a) (Some b) = Some (a, b)
  both_given (Some a) None = None
  both_given None b = None

  abbrev pub both_reports : Progress T → Option (Entry T × Entry T)
  both_reports progress = both_given progress.a.given progress.b.given

  -- an accepted report is what its seat has given in this round
  abbrev pub with_given : Side → Entry T → Progress T → Progress T
  with_given A entry old = record { window = old.window; made = old.made; a = seat_reporting entry old.a; b = old.b }
  with_given B entry old = record { window = old.window; made = old.made; a = old.a; b = seat_reporting entry old.b }

  -- a refused report changes nothing
  abbrev pub left_by : Result (Unit {0}) RunFault → Side → Entry T → Progress T → Progress T
  left_by (Ok u) side entry old = with_given side entry old
  left_by (Err fault) side entry old = old

  -- after a verdict: half the window, one verdict more, and each report is a bound of its seat
  pub record Moves (old : Progress T) (verdict : PairVerdict) (new : Progress T) : Type 0 where
    pub window : Halves old.window verdict new.window
    pub made : new.made ≡ saturated (old.made + 1)
    pub seats : (side : Side) → state_of_side side new ≡ seat_after side verdict (state_of_side side old)

  -- how far a run has come, and its stage; and the run that has come so far, in a stage
  abbrev pub progress_of_run : {S : Type 0} → Run T S → Progress T
  progress_of_run run = run.progress

  abbrev pub stage_of_run : {S : Type 0} → Run T S → S
  stage_of_run run = run.stage

  abbrev pub run_at : {S : Type 0} → Progress T → S → Run T S
  run_at progress stage = record { progress = progress; stage = stage }

  -- a run is comparing as long as its window has more than one place, and then closing
  abbrev pub stage_of : Progress T → StagedRun T
  stage_of progress =
      cond (progress.window.size == 1) (NowClosing (run_at progress (record {}))) (StillComparing (run_at progress (record {})))

  -- in either stage, how far the run has come
  abbrev pub progress_of : StagedRun T → Progress T
  progress_of (StillComparing run) = progress_of_run run
  progress_of (NowClosing run) = progress_of_run run

  -- the run in the same stage, come this far
  abbrev pub with_progress : Progress T → StagedRun T → StagedRun T
  with_progress progress (StillComparing run) = StillComparing (run_at progress (stage_of_run run))
  with_progress progress (NowClosing run) = NowClosing (run_at progress (stage_of_run run))

  -- a run just opened: the window is all of both rows, and no seat has reported yet
  pub record IsOpened (declared : OfSides) (rank : ℕ) (progress : Progress T) : Type 0 where
    pub window : IsWhole rank progress.window
    pub made : progress.made ≡ 0
    pub seats : (side : Side) → state_of_side side progress ≡ new_seat (declared side)

  -- an opening, accepted or refused; one that is accepted hands out a slip that is still to be taken back
  abbrev pub Opens : OfSides → (rank : ℕ) → Result (StagedRun T × Slip OfPair T) RunFault → Type 0
  Opens declared rank (Ok opened) =
      (opening_refusal declared rank ≡ None) × (opened.0 ≡ stage_of (progress_of opened.0)) × IsOpened declared rank (progress_of opened.0)
      × (spent opened.1 ≡ false)
  Opens declared rank (Err fault) = (refusal : Refusal) × (opening_refusal declared rank ≡ Some refusal) × (fault ≡ Own refusal None)

  -- what a step answers, apart from the run
  abbrev pub step_answer : Stepped T → Result PairVerdict RunFault
  step_answer (Ok advanced) = Ok advanced.verdict
  step_answer (Err refused) = Err refused.fault

  -- what a finish answers, apart from the run and the slip
  abbrev pub finish_answer : Ending T → Result (Outcome T) RunFault
  finish_answer (Ok outcome) = Ok outcome
  finish_answer (Err refused) = Err refused.fault

  -- the element of an entry; for a mark, which no run leads to, the type's sample
  abbrev pub element_of : (sample : T) → Entry T → T
  element_of sample Below = sample
  element_of sample (Element x) = x
  element_of sample Above = sample

  -- break-off answers the number of verdicts made
  abbrev pub BreaksOff : Progress T → (count : ℕ) → Type 0
  BreaksOff progress count = count ≡ progress.made

module _ {T : Type 0} (before : T → T → Bool) where
  -- Report: 13 where the seat has reported in this round, then 14 where the entry does not pass the test.
  abbrev pub report_refusal : Side → Entry T → Progress T → Option Refusal
  report_refusal side entry progress =
      let seat = state_of_side side progress in
      first_check (check (is_some seat.given) NotItsTurn
      ∷ check (not (passes before side progress.window.rank seat.declared (offset_of side progress.window) progress.window.size seat.bounds entry)) Impossible
      ∷ [])

  abbrev pub Reports : Side → Entry T → Progress T → Result (Unit {0}) RunFault → Progress T → Type 0
  Reports side entry old answer new =
      (answer ≡ answered (report_refusal side entry old) (Some (seat_of side)) tt) × (new ≡ left_by answer side entry old)

  -- Step: the referee's verdict on both reports, and the run in the stage that follows; refused, the run as it was.
  abbrev pub step_asks : Progress T → (stock : ℕ) → Result PairVerdict RunFault
  step_asks progress stock = question_answer (λ reports. first_of before reports.0 reports.1) (both_reports progress) stock

  abbrev pub Steps : Run T Comparing → (stock : ℕ) → Stepped T → Type 0
  Steps run stock (Ok advanced) =
      (step_asks (progress_of_run run) stock ≡ Ok advanced.verdict) × Moves (progress_of_run run) advanced.verdict (progress_of advanced.run)
      × (advanced.run ≡ stage_of (progress_of advanced.run))
  Steps run stock (Err refused) = (step_asks (progress_of_run run) stock ≡ Err refused.fault) × (refused.given ≡ run)

  -- Finish: the lesser of both reports, and the number of verdicts; refused, run and slip as they were.
  abbrev pub finish_asks : Progress T → (stock : ℕ) → Result (Entry T) RunFault
  finish_asks progress stock = question_answer (λ reports. lesser_entry before reports.0 reports.1) (both_reports progress) stock

  abbrev pub Finishes : (sample : T) → Run T Closing → Slip OfPair T → (stock : ℕ) → Ending T → Type 0
  Finishes sample run slip stock (Ok outcome) =
      (lesser : Entry T) × (finish_asks (progress_of_run run) stock ≡ Ok lesser) × (outcome.result ≡ element_of sample lesser)
      × BreaksOff (progress_of_run run) outcome.count
  Finishes sample run slip stock (Err refused) =
      (finish_asks (progress_of_run run) stock ≡ Err refused.fault) × (refused.given.0 ≡ run) × (refused.given.1 ≡ slip)
