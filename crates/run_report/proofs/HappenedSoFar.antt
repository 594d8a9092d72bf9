-- A system to which the events of a list happen.
use Rattle.std.proofs.Common.{◌≡◌, sym, ap, subst, ◌∙◌, arith, ℕ, suc, ◌+◌, List, [], ◌∷◌, Some, length, drop, get_or, slice_get, length-append}
use Rattle.std.proofs.{lemmas.Option.get_or_from_slice_get, lemmas.Option.slice_get_within, Math.Seq.drop-cons}
use Rattle.lte_events.specs.{Scenario.CanHappen, Scenario.IsScenario, declared.events.Event.Event, declared.setups.Setup.Setup}
use Rattle.lte_machine.specs.Machines.{Kept}
use Rattle.lte_machine.specs.Run.{RunState, Running, first_world, GoesOn}
use Rattle.lte_world.specs.Whole.{Whole, begun, run_of}
use Rattle.run_report.specs.{declared.endings.Ending.TheVariants.Done, Takes.CanTake, Takes.Takes}
use Rattle.run_report.specs.Events.{told_of, told_report, event_ends}
use Rattle.run_report.proofs.Partly.{Follows}
use Rattle.run_report.proofs.ReportByEvent.{report_from, report_more, still_goes, turned}

-- so many happened to it, and it goes on
pub record Took (setup : Setup) (i : ℕ) (w : Whole) : Type 0 where
  pub same : w.setup ≡ setup
  pub count : length w.journal ≡ i
  pub goes : GoesOn (run_of w)

-- the item at i, as a list of them gives it
pub item_at : {A : Type 0} (items : List A) (i : ℕ) (x : A) → slice_get items i ≡ Some x → get_or items i x ≡ x
item_at items i x at = get_or_from_slice_get items i x x at

-- the items that are left begin with the one at i
pub left_at : {A : Type 0} (items : List A) (i : ℕ) (x : A) → slice_get items i ≡ Some x → drop i items ≡ x ∷ drop (suc i) items
left_at items i x at = drop-cons items i x (slice_get_within items i x at) ∙ ap (λ d. d ∷ drop (suc i) items) (item_at items i x at)

pub none_taken : {setup : Setup} {w : Whole} → w ≡ begun setup → run_of w ≡ Running (first_world setup) → Took setup 0 w
none_taken is runs = record { same = ap (λ v. v.setup) is; count = ap (λ v. length v.journal) is; goes = subst GoesOn (sym runs) tt }

pub can_take : {setup : Setup} {events : List Event} {i : ℕ} {w : Whole} (e : Event)
    → IsScenario setup events
    → Took setup i w
    → slice_get events i ≡ Some e
    → CanTake w e
can_take {setup} {events} {i} e scenario took at =
    let within = slice_get_within events i e at in record {
      goes_on = took.goes;
      can = subst (λ s. CanHappen s e) (sym took.same) (subst (CanHappen setup) (item_at events i e at) (scenario.can_happen i e within));
      few = omega (arith, took.count, within, scenario.few);
    }

pub one_taken : {setup : Setup} {i : ℕ} {v w : Whole} (e : Event)
    → Took setup i v
    → event_ends (told_of (run_of v) e) ≡ Done
    → Takes v e w
    → Took setup (i + 1) w
one_taken {v} e took plain takes = record {
  same = takes.setup ∙ took.same;
  count = ap length takes.journal ∙ length-append v.journal (e ∷ []) ∙ ap (λ n. n + 1) took.count;
  goes = subst GoesOn (sym takes.run) (still_goes (run_of v) e plain);
}

-- the report of the events from i on begins with what is told of the one at i
pub follows : {setup : Setup} {i : ℕ} {v : Whole} {e : Event} (events : List Event) (run : RunState (List ℕ) ℕ Kept)
    → Took setup i v
    → slice_get events i ≡ Some e
    → run ≡ turned (run_of v) e
    → Follows (report_from (length events) i (run_of v) (drop i events)) (told_report (length v.journal) (told_of (run_of v) e))
    (report_from (length events) (i + 1) run (drop (i + 1) events))
follows {i} {v} {e} events run took at turns =
    report_more (length events) i (length v.journal) (run_of v) run events e (left_at events i e at) took.count turns
