-- A world that stands takes one event.
use Rattle.std.proofs.Common.{◌≡◌, sym, ap, subst, ◌∙◌, ℕ, ◌+◌, Bool, false, List, [], ◌∷◌, ◌++◌, length, Option, None, Result, Ok, Err, arith, length-append}
use Rattle.std.specs.{Prelude.IsTrue, Prelude.◌<◌, List.AllByRecursion as AllOf}
use Rattle.std.proofs.lemmas.Bool.{false≢true}
use Rattle.lte_events.specs.{Ranges.IsEvent, Ranges.IsSetup, declared.events.Event.Event, declared.lines.Line.Line, declared.setups.Setup.Setup}
use Rattle.key_terms.specs.declared.proof.Proof.{Proof}
use Rattle.lte_machine.specs.{BothRuns.octet_run, BothRuns.written_run, Carried.run_value, Ciphers.annex_b, Machines.Kept, Run.Running, Run.Stopped, World.World, World.happens}
use Rattle.store_laws.specs.{Additions.CanKeep, Proofs.coincidence_of}
use Rattle.lte_world.specs.declared.faults.WorldFault.{WorldFault}
use Rattle.lte_world.specs.Systems.{octets, Actors, Happens, EventCan, HasRoom}
use Rattle.lte_world.specs.Whole.{Whole, unless_over, told_of, turned, CanApply, Goes, Stands}
use Rattle.lte_world.proofs.Applying.{event_can, event_good, went_says, went_goes, ended_says, ended_run, run_more, run_written, events_more}

-- a world that stands, as its caller sees it, and an event that it can take
pub record AtEvent (setup : Setup) (journal : List Event) (over : Option Proof) (ready : Bool) (a : Actors) (v : Whole) (e : Event) : Type 0 where
  pub none : over ≡ None
  pub set : IsSetup setup
  pub are : AllOf IsEvent journal
  pub stands : Stands over (octet_run setup journal) a (length journal)
  pub view : record { setup = setup; journal = journal; over = over; ready = ready } ≡ v
  pub can : CanApply v e

-- what happened at the event, a line or a coincidence
pub record Gave (journal : List Event) (a b : Actors) (e : Event) (told : Result Line Proof) : Type 0 where
  pub step : ℕ
  pub step_is : step ≡ length journal
  pub happens : Happens a b e step told

module _ {setup : Setup} {journal : List Event} {over : Option Proof} {ready : Bool} {a : Actors} {v : Whole} {e : Event}
    (t : AtEvent setup journal over ready a v e) where
  at : record { setup = setup; journal = journal; over = None; ready = ready } ≡ v
  at = (λ j. record { setup = setup; journal = journal; over = sym t.none j; ready = ready }) ∙ t.view

  good : IsEvent e
  good = t.can.can.0

  goes : Goes (octet_run setup journal) a (length journal)
  goes = subst (λ o. Stands o (octet_run setup journal) a (length journal)) t.none t.stands

  pub event_fits : EventCan a e
  event_fits = event_can setup journal e a (length journal) t.set t.are good goes

  kept : (w : World (List ℕ) ℕ Kept) → octet_run setup journal ≡ Running w → CanKeep (happens octets w e).0
  kept = event_good setup journal e t.set t.are good

  module _ {b : Actors} {told : Result Line Proof} (g : Gave journal a b e told) where
    happened : Happens a b e (length journal) told
    happened = subst (λ n. Happens a b e n told) g.step_is g.happens

  -- with a line
  module _ {b : Actors} {line : Line} (g : Gave journal a b e (Ok line)) where
    pub says_line : ◌≡◌ {A = Result Line WorldFault} (Ok line) (told_of v e)
    says_line = went_says a b e (length journal) line (happened g) (octet_run setup journal) goes kept ∙ ap (λ x. told_of x e) at

    module _ {items : List Event} (longer : items ≡ journal ++ e ∷ []) where
      pub run_line : unless_over over (octet_run setup items) ≡ turned v e
      run_line =
          ap (λ o. unless_over o (octet_run setup items)) t.none ∙ ap (octet_run setup) longer ∙ run_more setup journal e ∙ ap (λ x. turned x e) at

      events_are : AllOf IsEvent items
      events_are = subst (AllOf IsEvent) (sym longer) (events_more journal e t.are good)

      pub written_line : unless_over over (octet_run setup items) ≡ run_value annex_b (written_run setup items)
      written_line = ap (λ o. unless_over o (octet_run setup items)) t.none ∙ run_written setup items t.set events_are

      stands_line : Stands over (octet_run setup items) b (length items)
      stands_line =
          let one_more : length journal + 1 ≡ length (journal ++ e ∷ []) = omega (arith, length-append journal (e ∷ [])) in
          let next = went_goes a b e (length journal) line (happened g) (octet_run setup journal) goes kept in
          subst (λ o. Stands o (octet_run setup items) b (length items)) (sym t.none)
          (subst (λ l. Goes (octet_run setup l) b (length l)) (sym longer)
          (subst (λ n. Goes (octet_run setup (journal ++ e ∷ [])) b n) one_more
          (subst (λ r. Goes r b (length journal + 1)) (sym (run_more setup journal e)) next)))

      pub line_keeps : (spare : ℕ)
          → IsSetup setup × AllOf IsEvent items × (IsTrue false → HasRoom b.stores × (0 < spare)) × Stands over (octet_run setup items) b (length items)
      line_keeps spare = (t.set, events_are, λ no. absurd (false≢true no), stands_line)

  -- with a coincidence
  module _ {b : Actors} {p : Proof} (g : Gave journal a b e (Err p)) where
    pub says_coincidence : ◌≡◌ {A = Result Line WorldFault} (Err (WorldFault.Chance p)) (told_of v e)
    says_coincidence = ended_says a b e (length journal) p (happened g) (octet_run setup journal) goes kept ∙ ap (λ x. told_of x e) at

    pub run_coincidence : Stopped (coincidence_of p) ≡ turned v e
    run_coincidence = ended_run a b e (length journal) p (happened g) (octet_run setup journal) goes kept ∙ ap (λ x. turned x e) at
