-- Honest seats of a group in a history: their reports are accepted, and their lists explain them.
use Rattle.std.proofs.Common.{◌≡◌, ℕ, ◌-◌, ◌≤◌, Bool, false, List, [], ◌∷◌, length, get_or, Some, None, Ok, Err, Option, Result, ◌==◌, sym, ◌∙◌, subst, arith}
use Rattle.std.proofs.Math.ListN.{get_or-map}
use Rattle.std.proofs.lemmas.Bool.{eqb-true}
use Rattle.std.proofs.lemmas.List.{length-map}
use Rattle.rankunit.specs.Elements.Limits.{saturated}
use Rattle.rankunit.specs.Faults.declared.fault.RunFault.{RunFault}
use Rattle.rankunit.specs.Faults.declared.fault.RunFault.TheVariants.{OfSeat}
use Rattle.rankunit.specs.Faults.declared.fault.SeatFault.TheVariants.{Own as OwnSeat}
use Rattle.rankunit.specs.Faults.declared.refusal.Refusal.{Refusal}
use Rattle.rankunit.specs.Faults.declared.seat.Seat.TheVariants.{Numbered}
use Rattle.rankunit.specs.Group.GroupCalls.{progress_of_run, limits_of, range_of}
use Rattle.rankunit.specs.Group.GroupHistoryLaw.{HistoriesKeepLaw}
use Rattle.rankunit.specs.Group.GroupProtocol.{Left, group_protocol, honest}
use Rattle.rankunit.specs.Group.Histories.{History, Now, GroupTrace, going, report}
use Rattle.rankunit.specs.Group.SeatRules.{Report}
use Rattle.rankunit.specs.Group.declared.counts.Counts.{Counts}
use Rattle.rankunit.specs.Group.declared.progress.Progress.{Progress}
use Rattle.rankunit.specs.Group.declared.run.OfGroup.{OfGroup}
use Rattle.rankunit.specs.Group.declared.run.Run.{Run}
use Rattle.rankunit.specs.Group.declared.run.StagedRun.TheVariants.{Comparing as StillComparing}
use Rattle.rankunit.specs.Referees.declared.verdict.GroupVerdict.{GroupVerdict}
use Rattle.rankunit.specs.Runs.HistoryLaw.{ExplainAll, Honest, InTurn}
use Rattle.rankunit.specs.Runs.Protocols.{Protocol}
use Rattle.rankunit.specs.Runs.Traces.{reported, verdicts, has_reported, EachIs}
use Rattle.rankunit.specs.Runs.declared.slip.Slip.{Slip}
use Rattle.rankunit.specs.Runs.declared.stage.Comparing.{Comparing}
use Rattle.rankunit.specs.Seats.ListRefusals.{IsGroupRefusal}
use Rattle.rankunit.specs.Seats.GroupSeatHonesty.{SeatIsHonest}
use Rattle.rankunit.specs.Seats.SeatReports.{GroupReport}
use Rattle.rankunit.proofs.Seats.GroupHonest.{group_seats_are_honest}
use Rattle.rankunit_c.specs.GroupRounds.{ReportsOne}
use Rattle.rankunit_c.specs.Measures.{declared_lengths, FirstRefused}
use Rattle.rankunit_c.proofs.UnrefusedLists.{Fits, unrefused_fits, each_fits}

-- seats are the same where their numbers are
abbrev pub same : ℕ → ℕ → Bool
same number other = number == other

-- a group of honest seats: the order of its elements and their places, the range of places, the rank, the list of each seat, and
-- the run that was opened for it, with its slip
pub record HonestGroup (T : Type 0) : Type 0 where
  pub before : T → T → Bool
  pub sample : T
  pub place : T → ℕ
  pub lowest : ℕ
  pub highest : ℕ
  pub lo : ℕ
  pub hi : ℕ
  pub k : ℕ
  pub lists : List (List T)
  pub opened : Run T Comparing × Slip OfGroup T

module _ {T : Type 0} (g : HonestGroup T) where
  abbrev pub declared : List ℕ
  declared = declared_lengths g.lists

  abbrev pub protocol : Protocol ℕ Counts GroupVerdict T Report
  protocol = group_protocol g.before g.place declared g.lo g.hi g.k

  -- what refuses a list, and the first of lists that is refused
  abbrev pub Refuses : List T → Option Refusal → Type 0
  Refuses xs of_list = IsGroupRefusal g.before g.place g.lo g.hi xs of_list

  abbrev pub FirstIs : (number : ℕ) → List (List T) → Option RunFault → Type 0
  FirstIs number later fault = FirstRefused g.before g.place g.lo g.hi number later fault

  -- the list of a seat, and its honest report after verdicts
  abbrev pub list_of : ℕ → List T
  list_of number = get_or g.lists (number - 1) []

  abbrev pub honest_of : ℕ → List GroupVerdict → Counts
  honest_of number made = honest g.before g.place declared g.lo g.hi g.k number (list_of number) made

  -- what an accepted opening promises of the run
  abbrev pub Lawful : Type 0
  Lawful = HistoriesKeepLaw g.before g.sample g.place g.lowest g.highest declared g.lo g.hi g.k (Ok g.opened)

  -- a history of that run, in which every accepted report is honest
  pub record HonestHistory (trace : GroupTrace T) (now : Now T) : Type 0 where
    pub history : History g.place g.lowest g.highest g.sample g.opened.0 trace now
    pub reports : (number : ℕ) → EachIs same (honest_of number) number trace

  -- a seat whose list fits is honest there
  pub honest_seat : {trace : GroupTrace T} {now : Now T} (number : ℕ) → Fits g.before g.place g.lo g.hi (list_of number) → HonestHistory trace now →
      Honest protocol number (list_of number) trace
  honest_seat number fits h =
      let as_declared : length (list_of number) ≡ saturated (length (list_of number)) = omega (arith, fits.short) in
      record {
        fit = record {
          of_length = as_declared ∙ sym (get_or-map (λ (xs : List T). saturated (length xs)) g.lists (number - 1) []);
          in_order = fits.in_order;
          within = fits.within;
        };
        reports = h.reports number;
      }

  -- there is a seat for each list
  pub seats_are : length declared ≡ length g.lists
  seats_are = length-map g.lists (λ (xs : List T). saturated (length xs))

  module _ (lawful : Lawful) where
    -- where no list is refused, the lists explain the reports
    pub lists_explain : {trace : GroupTrace T} {now : Now T} → FirstIs 1 g.lists None → HonestHistory trace now → ExplainAll protocol g.lists trace
    lists_explain {trace = trace} {now = now} none h =
        let law = (lawful trace now h.history).0 in
        record {
          one_a_seat = sym seats_are;
          each = λ number seated.
              let fits = each_fits g.before g.place g.lo g.hi 1 g.lists none (number - 1) (omega (arith, seated.0, seated.1, seats_are)) in
              law.own_list number seated (list_of number) (honest_seat number fits h);
        }

    module _ {past : GroupTrace T} {run : Run T Comparing} (h : HonestHistory past (going (StillComparing run))) (number : ℕ) where
      abbrev progress : Progress
      progress = progress_of_run run

      -- the seat's call, where it answers counts, answers the honest ones
      by_seat : (counts : Counts) → GroupReport g.before g.place (limits_of progress) (range_of progress) number (list_of number) (Ok counts) →
          SeatIsHonest g.before g.place declared g.lo g.hi g.k past run number (list_of number) counts
      by_seat counts call =
          group_seats_are_honest g.before g.sample g.place g.lowest g.highest declared g.lo g.hi g.k g.opened lawful past run h.history number
          (list_of number) counts call

      -- what refuses a list in the run's range does so in the range that it was opened with
      in_range : (of_list : Option Refusal) →
          IsGroupRefusal g.before g.place (limits_of progress).from (limits_of progress).to (list_of number) of_list → Refuses (list_of number) of_list
      in_range of_list is =
          let shows = (lawful past (going (StillComparing run)) h.history).1 in
          subst (λ (left : Left). IsGroupRefusal g.before g.place left.a left.b (list_of number) of_list) shows.limits_are is

      -- with such a report every accepted report is still honest
      with_report : (counts : Counts) → counts ≡ honest_of number (verdicts past) → (other : ℕ) →
          EachIs same (honest_of other) other (reported number counts (Ok tt) ∷ past)
      with_report counts is other = (
        (λ this. subst (λ (n : ℕ). counts ≡ honest_of n (verdicts past)) (sym (eqb-true other number this)) is, tt),
        h.reports other,
      )

      -- what the report of a seat comes to: it is accepted, or else its list is refused
      abbrev pub Comes : Run T Comparing → Result (Unit {0}) RunFault → Type 0
      Comes left (Ok u) =
          Refuses (list_of number) None
          × ((counts : Counts) × HonestHistory (reported number counts (Ok tt) ∷ past) (going (StillComparing left)))
      Comes left (Err fault) =
          (refusal : Refusal) × Refuses (list_of number) (Some refusal) × (fault ≡ OfSeat (OwnSeat refusal (Some (Numbered number))))

      pub report_comes : 1 ≤ number → number ≤ length g.lists → has_reported same number past ≡ false →
          (answer : Result (Unit {0}) RunFault) (left : Run T Comparing) → ReportsOne g.before g.place number (list_of number) run answer left → Comes left answer
      report_comes first last not_yet (Ok u) left (Ok counts, (None, none, e), given) =
          let seat = by_seat counts (None, none, e) in (
            in_range None none,
            (
              counts,
              record {
                history = report {run = run} {left = left} number counts (Ok tt) h.history given;
                reports = with_report counts seat.is_honest;
              },
            ),
          )
      report_comes first last not_yet (Err fault) left (Ok counts, (None, none, e), given) =
          let seat = by_seat counts (None, none, e) in
          let turn : InTurn protocol number past = record { seated = (first, omega (arith, last, seats_are)); not_yet = not_yet } in
          let fits = unrefused_fits g.before g.place g.lo g.hi (list_of number) (in_range None none) in
          let never = seat.is_accepted (Err fault) left given turn (honest_seat number fits h) in
          absurd cc
      report_comes first last not_yet answer left (Ok counts, (Some refusal, is, e), given) = absurd cc
      report_comes first last not_yet answer left (Err of_seat, (None, none, e), given) = absurd cc
      report_comes first last not_yet (Ok u) left (Err of_seat, (Some refusal, is, e), given) = let f = given.0 in absurd cc
      report_comes first last not_yet (Err fault) left (Err of_seat, (Some refusal, is, e), given) =
          let f = given.0 in (refusal, in_range (Some refusal) is, cc)
