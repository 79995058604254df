-- How a run of honest seats of a group stands between its rounds, and what it comes to.
use Rattle.std.proofs.Common.{◌≡◌, ℕ, ◌+◌, ◌-◌, ◌^◌, ◌<◌, ◌≤◌, Bool, true, false, List, [], ◌∷◌, length, reverse, get_or, Some, None, Ok, Err, Option, Result, sym, refl, ap, ◌∙◌, subst, arith}
use Rattle.std.proofs.lemmas.List.{length-append, length-reverse}
use Rattle.rankunit.specs.Elements.Delays.{delay_before, delay_zero}
use Rattle.rankunit.specs.Elements.declared.delay.Delay.{Delay}
use Rattle.rankunit.specs.Faults.declared.fault.RunFault.{RunFault}
use Rattle.rankunit.specs.Faults.declared.refusal.Refusal.{Refusal}
use Rattle.rankunit.specs.Group.GroupCalls.{Finishes, progress_of_run}
use Rattle.rankunit.specs.Group.Histories.{GroupTrace, Now, going, opened, step, finish}
use Rattle.rankunit.specs.Group.SeatCounts.{weighed}
use Rattle.rankunit.specs.Group.declared.run.Advanced.{Advanced}
use Rattle.rankunit.specs.Group.declared.run.OfGroup.{OfGroup}
use Rattle.rankunit.specs.Group.declared.run.Run.{Run}
use Rattle.rankunit.specs.Group.declared.run.StagedRun.{StagedRun}
use Rattle.rankunit.specs.Group.declared.run.StagedRun.TheVariants.{Comparing as StillComparing, Closing as NowClosing}
use Rattle.rankunit.specs.Referees.declared.verdict.GroupVerdict.{GroupVerdict}
use Rattle.rankunit.specs.Runs.Finishes.{Outcome as Found}
use Rattle.rankunit.specs.Runs.HistoryLaw.{Asked, missing, empty}
use Rattle.rankunit.specs.Runs.Traces.{stepped, verdicts, has_reported}
use Rattle.rankunit.specs.Runs.declared.refused.Refused.{Refused}
use Rattle.rankunit.specs.Runs.declared.slip.Slip.{Slip}
use Rattle.rankunit.specs.Runs.declared.stage.Closing.{Closing}
use Rattle.rankunit.specs.Runs.declared.stage.Comparing.{Comparing}
use Rattle.rankunit_c.specs.declared.measure.TheConstants.{STOCK}
use Rattle.rankunit_c.specs.GroupRounds.{ReportsFrom, PlaysRound}
use Rattle.rankunit_c.specs.Measures.{Finds, FoundUnless, ComesTo, IsGroupRun, delay_place, lowest, highest}
use Rattle.rankunit_c.proofs.GroupReports.{ListsFrom, ReportedBelow, ReportsCome, reports_come}
use Rattle.rankunit_c.proofs.HonestGroups.{same, HonestGroup, FirstIs, protocol, seats_are, Lawful, HonestHistory, lists_explain}
use Rattle.rankunit_c.proofs.ShortSearches.{search_is_short}

module _ {T : Type 0} (g : HonestGroup T) where
  -- between rounds: the history so far is of honest reports, no seat has reported since, and each verdict is paid from the stock
  pub record Stands (run : Run T Comparing) (stock : ℕ) : Type 0 where
    pub past : GroupTrace T
    pub honestly : HonestHistory g past (going (StillComparing run))
    pub not_yet : (number : ℕ) → has_reported same number past ≡ false
    pub paid : stock + length (verdicts past) ≡ STOCK

  -- so a run stands at its start
  pub stands_at_start : Stands g.opened.0 STOCK
  stands_at_start = record {
    past = [];
    honestly = record { history = opened; reports = λ number. tt };
    not_yet = λ number. refl;
    paid = refl;
  }

  module _ (lawful : Lawful g) where
    -- no history has more verdicts than the range can be halved
    few_verdicts : {trace : GroupTrace T} {now : Now T} → HonestHistory g trace now → (j : ℕ) → g.hi - g.lo + 1 < 2 ^ j → length (verdicts trace) ≤ j
    few_verdicts {trace = trace} {now = now} h j small =
        let law = (lawful trace now h.history).0 in
        let some = law.some_lists in
        let made = law.first_made some.0 some.1 in
        let short = search_is_short (weighed g.place g.k some.0) made.1.1 j small in
        omega (arith, short, length-append (reverse (verdicts trace)) made.0, length-reverse (verdicts trace))

    -- a question about a round in which all seats have reported is not refused while there is stock
    not_refused : {fault : RunFault} (stock : ℕ) (trace : GroupTrace T) → 0 < stock →
        ((number : ℕ) → 1 ≤ number → number ≤ length g.lists → has_reported same number trace ≡ true) →
        Asked (protocol g) stock {X = GroupVerdict} (Err fault) trace → ⊥
    not_refused stock trace some all (missing lacking) =
        let has = all lacking.0 lacking.1.0 (omega (arith, lacking.1.1, seats_are g)) in
        let has_not = lacking.2 in
        cc
    not_refused stock trace some all (empty reported none) = omega (arith, some, none)

    module _ {run : Run T Comparing} {stock : ℕ} (stands : Stands run stock) where
      -- in a round every list from the first on is reported of
      round_comes : (answer : Result (Unit {0}) RunFault) (left : Run T Comparing) → ReportsFrom g.before g.place 1 g.lists run answer left →
          ReportsCome g 1 g.lists stands.past left answer
      round_comes answer left reports =
          let from : ListsFrom g 1 g.lists
          = record { first = omega arith; each = λ i. let here : 1 - 1 + i ≡ i = omega arith in ap (λ (n : ℕ). get_or g.lists n []) here; all = omega arith } in
          let none : ReportedBelow g 1 stands.past
          = record { below = λ other first last. absurd (omega arith); from = λ other later. stands.not_yet other } in
          reports_come g lawful 1 g.lists from stands.past run stands.honestly none answer left reports

      -- so a round that is refused is refused for a list, the first that is
      pub round_refused : (j : ℕ) → g.hi - g.lo + 1 < 2 ^ j → j < STOCK → (refused : Refused (Run T Comparing)) → PlaysRound g.before g.place g.lists run stock (Err refused) →
          FirstIs g 1 g.lists (Some refused.fault)
      round_refused j small some refused (left, Err fault, reports, e) =
          let same_fault : fault ≡ refused.fault = cc in
          subst (λ (f : RunFault). FirstIs g 1 g.lists (Some f)) same_fault (round_comes (Err fault) left reports)
      round_refused j small some refused (left, Ok u, reports, steps) =
          let all = round_comes (Ok u) left reports in
          let next = step {run = left} stock (Err refused) all.honestly.history steps in
          let few = few_verdicts stands.honestly j small in
          absurd (not_refused stock all.trace (omega (arith, few, some, stands.paid)) all.all (lawful _ _ next).0.events.0)

      -- and after one that is not, the run has the history of it, and no list is refused
      pub record RoundMade (stage : StagedRun T) : Type 0 where
        pub trace : GroupTrace T
        pub honestly : HonestHistory g trace (going stage)
        pub not_yet : (number : ℕ) → has_reported same number trace ≡ false
        pub one_more : length (verdicts trace) ≡ length (verdicts stands.past) + 1
        pub none : FirstIs g 1 g.lists None

      round_made : (advanced : Advanced T) → PlaysRound g.before g.place g.lists run stock (Ok advanced) → RoundMade advanced.run
      round_made advanced (left, Err fault, reports, e) = absurd cc
      round_made advanced (left, Ok u, reports, steps) =
          let all = round_comes (Ok u) left reports in
          record {
            trace = stepped stock (Ok advanced.verdict) ∷ all.trace;
            honestly = record {
              history = step {run = left} stock (Ok advanced) all.honestly.history steps;
              reports = λ number. (tt, all.honestly.reports number);
            };
            not_yet = λ number. refl;
            one_more = omega (arith, ap length all.no_verdict);
            none = all.none;
          }

      -- a run that goes on stands as before
      pub stands_after : (advanced : Advanced T) (next : Run T Comparing) → advanced.run ≡ StillComparing next →
          PlaysRound g.before g.place g.lists run stock (Ok advanced) → (left : ℕ) → stock ≡ left + 1 → Stands next left
      stands_after advanced next is plays left spent =
          let made = subst RoundMade is (round_made advanced plays) in
          record {
            past = made.trace;
            honestly = made.honestly;
            not_yet = made.not_yet;
            paid = omega (arith, made.one_more, spent, stands.paid);
          }

      -- and one that is closing finds the element
      pub finds_after : (advanced : Advanced T) (last : Run T Closing) → advanced.run ≡ NowClosing last → PlaysRound g.before g.place g.lists run stock (Ok advanced) →
          (found : Found T) → Finishes g.place g.lowest g.highest g.sample (progress_of_run last) found →
          FirstIs g 1 g.lists None × Finds g.before g.place g.lo g.hi g.lists g.k found
      finds_after advanced last is plays found finishes =
          let made = subst RoundMade is (round_made advanced plays) in
          let law = (lawful _ _ (finish {run = last} found made.honestly.history finishes)).0.events.0.2 in
          let explain = lists_explain g lawful made.none made.honestly in (
            made.none,
            record {
              result = law.result_is g.lists explain;
              verdicts = reverse (verdicts made.trace);
              made = law.all_made g.lists explain;
              count = law.count_is ∙ sym (length-reverse (verdicts made.trace));
            },
          )

module _ {T : Type 0} (before : T → T → Bool) (place : T → ℕ) (lo hi : ℕ) (lists : List (List T)) (rank j : ℕ) (small : hi - lo + 1 < 2 ^ j)
    (found : Found T) where
  few_found : (of_lists : Option RunFault) → FoundUnless before place lo hi lists rank of_lists (Ok found) → found.count ≤ j
  few_found (Some fault) is = absurd cc
  few_found None (other, is, finds) =
      let short = search_is_short (weighed place rank lists) finds.made.1 j small in
      let one : found ≡ other = cc in
      omega (arith, short, finds.count, ap (λ (f : Found T). f.count) one)

  few_unless : (opening : Option Refusal) → ComesTo before place lo hi lists rank opening (Ok found) → found.count ≤ j
  few_unless (Some refusal) is = absurd cc
  few_unless None (of_lists, first, unless) = few_found of_lists unless

  -- so no run has more verdicts
  pub few_rounds : (least greatest : ℕ) → IsGroupRun before place lo hi lists rank least greatest (Ok found) → found.count ≤ j
  few_rounds least greatest is = few_unless _ is

-- a measured group: delays over all their places
abbrev pub group_of : List (List Delay) → (rank : ℕ) → Run Delay Comparing × Slip OfGroup Delay → HonestGroup Delay
group_of lists rank run = record {
  before = delay_before;
  sample = delay_zero;
  place = delay_place;
  lowest = lowest;
  highest = highest;
  lo = lowest;
  hi = highest;
  k = rank;
  lists = lists;
  opened = run;
}
