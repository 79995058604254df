-- What each call on the run of a group answers, and what it leaves.
use Rattle.std.specs.Prelude.{◌≡◌, ℕ, ◌+◌, ◌-◌, min, max, true, false, ◌||◌, List, [], ◌∷◌, map, Some, None, Ok, Err, Option, Result, ◌==◌, nat_lt, slice_set}
use Rattle.std.specs.List.{sum}
use Rattle.elements.specs.Orders.{AtPlace}
use Rattle.faults.specs.declared.fault.RunFault.{RunFault}
use Rattle.faults.specs.declared.fault.RunFault.TheVariants.{Own}
use Rattle.faults.specs.declared.seat.Seat.TheVariants.{Numbered}
use Rattle.faults.specs.declared.refusal.Refusal.{Refusal}
use Rattle.faults.specs.declared.refusal.Refusal.TheVariants.{RangeNotPlaces, RankOutOfBounds}
use Rattle.group.specs.declared.range.Range.{Range}
use Rattle.referees.specs.Verdicts.{weight_of}
use Rattle.referees.specs.declared.verdict.GroupVerdict.{GroupVerdict}
use Rattle.referees.specs.declared.verdict.GroupVerdict.TheVariants.{Lower, Higher, Done}
use Rattle.runs.specs.Answers.{question_answer}
use Rattle.faults.specs.RefusalOrder.{check, first_check, answered}
use Rattle.elements.specs.Limits.{saturated}
use Rattle.runs.specs.Finishes.{Outcome}
use Rattle.runs.specs.Slips.{spent}
use Rattle.runs.specs.declared.slip.Slip.{Slip}
use Rattle.group.specs.SeatValues.{SeatValue, new_seat, with_counts, seat_after, seat_number, gathered, seats_refusal, seat_refusal}
use Rattle.group.specs.SeatCalls.{seats_of}
use Rattle.group.specs.Ranges.{target, from_after, to_after}
use Rattle.group.specs.declared.counts.Counts.{Counts}
use Rattle.group.specs.declared.progress.Progress.{Progress}
use Rattle.runs.specs.declared.stage.Comparing.{Comparing}
use Rattle.runs.specs.declared.refused.Refused.{Refused}
use Rattle.group.specs.declared.run.Advanced.{Advanced}
use Rattle.group.specs.declared.run.OfGroup.{OfGroup}
use Rattle.group.specs.declared.run.Run.{Run}
use Rattle.group.specs.declared.run.StagedRun.{StagedRun}
use Rattle.group.specs.declared.run.StagedRun.TheVariants.{Comparing as StillComparing, Closing as NowClosing}

-- what a step comes to; a refused one gives back the run
abbrev pub Stepped : Type 0 → Type 0
Stepped T = Result (Advanced T) (Refused (Run T Comparing))

-- how far a run has come
abbrev pub progress_of_run : {T S : Type 0} → Run T S → Progress
progress_of_run run = run.progress

-- the range that it was opened with, and what is left of it
abbrev pub limits_of : Progress → Range
limits_of progress = progress.limits

abbrev pub range_of : Progress → Range
range_of progress = progress.range

-- the same as plain values: its rank, the sum of the declared lengths, the range lo to hi that it was opened
-- with and the range a to b that is left, the number of verdicts made, and the state of each seat
pub record State : Type 0 where
  pub rank : ℕ
  pub total : ℕ
  pub lo : ℕ
  pub hi : ℕ
  pub a : ℕ
  pub b : ℕ
  pub made : ℕ
  pub seats : List SeatValue

abbrev pub state_of : Progress → State
state_of progress = record {
  rank = progress.rank;
  total = progress.seats.total;
  lo = progress.limits.from;
  hi = progress.limits.to;
  a = progress.range.from;
  b = progress.range.to;
  made = progress.made;
  seats = seats_of progress.seats;
}

-- Opening: 8 and 9 of the seats, then 10 where the range is empty or reaches beyond the type's places, then 11 where the rank
-- is 0 or above the sum of the lengths.
abbrev pub opening_refusal : (lowest highest : ℕ) → List ℕ → (lo hi rank : ℕ) → Option Refusal
opening_refusal lowest highest lengths lo hi rank =
    first_check (seats_refusal lengths
    ∷ check (nat_lt hi lo || (nat_lt lo lowest || nat_lt highest hi)) RangeNotPlaces
    ∷ check (rank == 0 || nat_lt (sum lengths) rank) RankOutOfBounds
    ∷ [])

-- a run just opened: the range is all of lo to hi, and no seat has reported yet
abbrev pub opened_state : List ℕ → (lo hi rank : ℕ) → State
opened_state lengths lo hi rank = record {
  rank = rank;
  total = sum lengths;
  lo = lo;
  hi = hi;
  a = lo;
  b = hi;
  made = 0;
  seats = map new_seat lengths;
}

-- the range from lo to hi; none where it is empty or reaches beyond the type's places
abbrev pub IsWithin : (lowest highest lo hi : ℕ) → Option Range → Type 0
IsWithin lowest highest lo hi (Some range) =
    (nat_lt hi lo || (nat_lt lo lowest || nat_lt highest hi) ≡ false) × (range.from ≡ lo) × (range.to ≡ hi)
IsWithin lowest highest lo hi None = nat_lt hi lo || (nat_lt lo lowest || nat_lt highest hi) ≡ true

abbrev pub IsOpened : (lowest highest : ℕ) → List ℕ → (lo hi rank : ℕ) → Result Progress Refusal → Type 0
IsOpened lowest highest lengths lo hi rank (Ok progress) =
    (opening_refusal lowest highest lengths lo hi rank ≡ None) × (state_of progress ≡ opened_state lengths lo hi rank)
IsOpened lowest highest lengths lo hi rank (Err refusal) = opening_refusal lowest highest lengths lo hi rank ≡ Some refusal

-- an opening, accepted or refused; one that is accepted hands out a slip that is still to be taken back
abbrev pub Opens : {T : Type 0} → (lowest highest : ℕ) → List ℕ → (lo hi rank : ℕ) → Result (Run T Comparing × Slip OfGroup T) RunFault → Type 0
Opens lowest highest lengths lo hi rank (Ok opened) =
    (opening_refusal lowest highest lengths lo hi rank ≡ None) × (state_of (progress_of_run opened.0) ≡ opened_state lengths lo hi rank)
    × (spent opened.1 ≡ false)
Opens lowest highest lengths lo hi rank (Err fault) =
    (refusal : Refusal) × (opening_refusal lowest highest lengths lo hi rank ≡ Some refusal) × (fault ≡ Own refusal None)

-- the same with what the seat of that number has given
abbrev pub reported_state : (number : ℕ) → Counts → SeatValue → State → State
reported_state number counts seat old = record {
  rank = old.rank;
  total = old.total;
  lo = old.lo;
  hi = old.hi;
  a = old.a;
  b = old.b;
  made = old.made;
  seats = slice_set old.seats (number - 1) (with_counts counts seat);
}

-- Report: 13 where it is not the seat's turn, then 14 where the counts do not keep the rules at the target.
abbrev pub report_refusal : (number : ℕ) → Counts → State → Option Refusal
report_refusal number counts state = seat_refusal state.a state.b (seat_number state.seats number) counts

-- an accepted report is what its seat has given in this round; a refused one changes nothing
abbrev pub LeftBy : Result (Unit {0}) RunFault → (number : ℕ) → Counts → Progress → Progress → Type 0
LeftBy (Ok u) number counts old new =
    (seat : SeatValue) × (seat_number (state_of old).seats number ≡ Some seat) × (state_of new ≡ reported_state number counts seat (state_of old))
LeftBy (Err fault) number counts old new = new ≡ old

abbrev pub Reports : (number : ℕ) → Counts → Progress → Result (Unit {0}) RunFault → Progress → Type 0
Reports number counts old answer new =
    (answer ≡ answered (report_refusal number counts (state_of old)) (Some (Numbered number)) tt) × LeftBy answer number counts old new

-- Step: the referee weighs the sums of what all seats have given.
abbrev pub step_asks : State → (stock : ℕ) → Result GroupVerdict RunFault
step_asks state stock = question_answer (λ sums. weight_of sums.below sums.above state.rank state.total) (gathered state.seats) stock

-- after a verdict: what it leaves of the range, where an end that would pass the other stays at it; one verdict more; and
-- what each seat gave has shown more of it
abbrev pub moved_state : GroupVerdict → State → State
moved_state verdict old = record {
  rank = old.rank;
  total = old.total;
  lo = old.lo;
  hi = old.hi;
  a = min old.b (from_after verdict old.a old.b);
  b = max old.a (to_after verdict old.a old.b);
  made = saturated (old.made + 1);
  seats = map (seat_after verdict) old.seats;
}

module _ {T : Type 0} where
  -- in either stage
  abbrev pub progress_of : StagedRun T → Progress
  progress_of (StillComparing run) = progress_of_run run
  progress_of (NowClosing run) = progress_of_run run

  -- a run is comparing until the verdict is done, and then closing
  abbrev pub IsStageAfter : GroupVerdict → StagedRun T → Type 0
  IsStageAfter Lower (StillComparing run) = Unit {0}
  IsStageAfter Lower (NowClosing run) = ⊥
  IsStageAfter Higher (StillComparing run) = Unit {0}
  IsStageAfter Higher (NowClosing run) = ⊥
  IsStageAfter Done (StillComparing run) = ⊥
  IsStageAfter Done (NowClosing run) = Unit {0}

  -- what a step answers, apart from the run
  abbrev pub step_answer : Stepped T → Result GroupVerdict RunFault
  step_answer (Ok advanced) = Ok advanced.verdict
  step_answer (Err refused) = Err refused.fault

  -- the referee's verdict, and the run in the stage that follows; refused, the run as it was
  abbrev pub Steps : Run T Comparing → (stock : ℕ) → Stepped T → Type 0
  Steps run stock (Ok advanced) =
      (step_asks (state_of (progress_of_run run)) stock ≡ Ok advanced.verdict) × IsStageAfter advanced.verdict advanced.run
      × (state_of (progress_of advanced.run) ≡ moved_state advanced.verdict (state_of (progress_of_run run)))
  Steps run stock (Err refused) = (step_asks (state_of (progress_of_run run)) stock ≡ Err refused.fault) × (refused.given ≡ run)

-- break-off answers the number of verdicts made
abbrev pub BreaksOff : Progress → (count : ℕ) → Type 0
BreaksOff progress count = count ≡ progress.made

-- the element or else another one
abbrev pub or_else : {T : Type 0} → T → Option T → T
or_else other None = other
or_else other (Some x) = x

-- the element at a place; for a number that is no place of the type, to which no run leads, the type's sample
abbrev pub IsElementAt : {T : Type 0} → (place : T → ℕ) → (lowest highest : ℕ) → (sample : T) → ℕ → T → Type 0
IsElementAt {T} place lowest highest sample n x = (answer : Option T) × AtPlace place lowest highest n answer × (x ≡ or_else sample answer)

-- Finish: the element at the target, and the number of verdicts.
pub record Finishes {T : Type 0} (place : T → ℕ) (lowest highest : ℕ) (sample : T) (progress : Progress) (outcome : Outcome T) : Type 0 where
  pub element : IsElementAt place lowest highest sample (target (range_of progress).from (range_of progress).to) outcome.result
  pub count : BreaksOff progress outcome.count
