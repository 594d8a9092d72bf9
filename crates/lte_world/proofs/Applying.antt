-- One event of the world is one event of the run.
use Rattle.std.proofs.Common.{◌≡◌, refl, sym, ap, subst, ◌∙◌, ℕ, ◌+◌, List, [], ◌∷◌, ◌++◌, Option, Some, None, Result, Ok, Err}
use Rattle.std.specs.List.{AllByRecursion as AllOf}
use Rattle.lte_events.specs.{Ranges.IsEvent, Ranges.IsSetup, Scenario.CanHappen, declared.events.Event.Event, declared.lines.Line.Line, declared.setups.Setup.Setup}
use Rattle.key_terms.specs.declared.proof.Proof.{Proof}
use Rattle.lte_machine.specs.{BothRuns.octet_run, BothRuns.written_run, Carried.run_value, Ciphers.annex_b, Machines.Kept, Ladder.Clash, Ladder.ladder_of, Tuples.Coincidence, World.World, World.happens}
use Rattle.lte_machine.specs.Opening.{Opening, Outcome, open_octets}
use Rattle.lte_machine.specs.Run.{RunState, Running, Stopped, after, turn, reported, event_report, first_world}
use Rattle.lte_machine.specs.Step.{StepResult, Continues, Stops, by_ladder, by_coincidence, opening_coincidence, attempted, next}
use Rattle.lte_machine.specs.World as world
use Rattle.lte_machine.proofs.{AnnexB.annex_b_ciphers, EventByEvent.replay_snoc, KnownLists.all_append, Routing.happens_each, WholeRun.run_is_value}
use Rattle.store_laws.specs.{Additions.CanKeep, Proofs.coincidence_of}
use Rattle.store_laws.proofs.{EveryRun.event_keeps, ProofsAreCoincidences.coincidence_back}
use Rattle.lte_world.specs.{declared.faults.WorldFault.WorldFault, Whole.answer_of, Whole.Goes}
use Rattle.lte_world.specs.Systems.{octets, Actors, CameOut, Happens, EventCan, MayHappen}

abbrev in_octets : Opening (List ℕ) → List ℕ → Outcome
in_octets = open_octets annex_b

-- RUNS

pub run_more : (setup : Setup) (events : List Event) (e : Event) → octet_run setup (events ++ e ∷ []) ≡ turn in_octets octets (octet_run setup events) e
run_more setup events e = replay_snoc in_octets octets (Running (first_world setup)) events e

pub run_written : (setup : Setup) (events : List Event)
    → IsSetup setup
    → AllOf IsEvent events
    → octet_run setup events ≡ run_value annex_b (written_run setup events)
run_written setup events is are = run_is_value annex_b annex_b_ciphers setup is events are

pub events_more : (events : List Event) (e : Event) → AllOf IsEvent events → IsEvent e → AllOf IsEvent (events ++ e ∷ [])
events_more events e are is = all_append IsEvent events (e ∷ []) are (is, tt)

-- THE NUMBER OF EVENTS

module _ (w : World (List ℕ) ℕ Kept) where
  abbrev One : World (List ℕ) ℕ Kept → Type 0
  One u = u.events ≡ w.events + 1

  happens_one : (e : Event) → One (happens octets w e).0
  happens_one = happens_each octets w (λ done a. One done.0) (λ ksi key caps. refl) (λ input came turn. refl)
      (λ input came. refl) (λ id input came s there own. refl) (λ answer. refl)

  ladder_goes : (c : Option (Clash (List ℕ))) (h : World (List ℕ) ℕ Kept × world.Line (List ℕ))
      (u : World (List ℕ) ℕ Kept) (l : world.Line (List ℕ))
      → by_ladder c h ≡ Continues u l
      → h.0 ≡ u
  ladder_goes None h u l e = cc
  ladder_goes (Some c) h u l e = absurd (stops_not e)
    where
      stops_not : {coincidence : Coincidence (List ℕ)} → ◌≡◌ {A = StepResult (List ℕ) ℕ Kept} (Stops coincidence) (Continues u l) → ⊥
      stops_not bad = cc

  coincidence_goes : (c : Option (Coincidence (List ℕ))) (h : World (List ℕ) ℕ Kept × world.Line (List ℕ))
      (u : World (List ℕ) ℕ Kept) (l : world.Line (List ℕ)) →
      by_coincidence octets.reading.same c h ≡ Continues u l → h.0 ≡ u
  coincidence_goes None h u l e = ladder_goes (ladder_of octets.reading.same h.0.history).clash h u l e
  coincidence_goes (Some c) h u l e = absurd (stops_not e)
    where
      stops_not : {coincidence : Coincidence (List ℕ)} → ◌≡◌ {A = StepResult (List ℕ) ℕ Kept} (Stops coincidence) (Continues u l) → ⊥
      stops_not bad = cc

  next_one : (e : Event) (u : World (List ℕ) ℕ Kept) (l : world.Line (List ℕ)) → next in_octets octets w e ≡ Continues u l → One u
  next_one e u l is = subst One (coincidence_goes (opening_coincidence in_octets octets (attempted octets w e)) (happens octets w e) u l is) (happens_one e)

-- ONE EVENT

ok_err : {line : Line} {p : Proof} → ◌≡◌ {A = Result Line Proof} (Ok line) (Err p) → ⊥
ok_err e = cc

ok_ok : {line told : Line} → ◌≡◌ {A = Result Line Proof} (Ok line) (Ok told) → line ≡ told
ok_ok e = cc

err_err : {p q : Proof} → ◌≡◌ {A = Result Line Proof} (Err p) (Err q) → p ≡ q
err_err e = cc

module _ (a b : Actors) (e : Event) (n : ℕ) where
  -- the run goes on
  module _ (line : Line) (h : Happens a b e n (Ok line)) where
    pub went_says : (r : RunState (List ℕ) ℕ Kept)
        → Goes r a n
        → ((w : World (List ℕ) ℕ Kept) → r ≡ Running w → CanKeep (happens octets w e).0)
        → ◌≡◌ {A = Result Line WorldFault} (Ok line) (answer_of (event_report in_octets octets r e))
    unfolding Happens
    went_says (Stopped coincidence) g k = absurd g
    went_says (Running w) g k = by (next in_octets octets w e) (h w g.0 g.1 (k w refl))
      where
        by : (x : StepResult (List ℕ) ℕ Kept) → CameOut x b (Ok line) → ◌≡◌ {A = Result Line WorldFault} (Ok line) (answer_of (reported x))
        by (Continues u l) o = ap Ok (ok_ok o.0)
        by (Stops coincidence) o = absurd (ok_err o)

    pub went_goes : (r : RunState (List ℕ) ℕ Kept)
        → Goes r a n
        → ((w : World (List ℕ) ℕ Kept) → r ≡ Running w → CanKeep (happens octets w e).0)
        → Goes (turn in_octets octets r e) b (n + 1)
    unfolding Happens
    went_goes (Stopped coincidence) g k = absurd g
    went_goes (Running w) g k = by (next in_octets octets w e) refl (h w g.0 g.1 (k w refl))
      where
        by : (x : StepResult (List ℕ) ℕ Kept) → next in_octets octets w e ≡ x → CameOut x b (Ok line) → Goes (after x) b (n + 1)
        by (Continues u l) is o = (o.1, next_one w e u l is ∙ ap (λ k. k + 1) g.1)
        by (Stops coincidence) is o = absurd (ok_err o)

  -- or ends
  module _ (p : Proof) (h : Happens a b e n (Err p)) where
    pub ended_says : (r : RunState (List ℕ) ℕ Kept)
        → Goes r a n
        → ((w : World (List ℕ) ℕ Kept) → r ≡ Running w → CanKeep (happens octets w e).0)
        → ◌≡◌ {A = Result Line WorldFault} (Err (WorldFault.Chance p)) (answer_of (event_report in_octets octets r e))
    unfolding Happens
    ended_says (Stopped coincidence) g k = absurd g
    ended_says (Running w) g k = by (next in_octets octets w e) (h w g.0 g.1 (k w refl))
      where
        by : (x : StepResult (List ℕ) ℕ Kept) → CameOut x b (Err p) → ◌≡◌ {A = Result Line WorldFault} (Err (WorldFault.Chance p)) (answer_of (reported x))
        by (Continues u l) o = absurd (ok_err (sym o.0))
        by (Stops coincidence) o = ap (λ q. Err (WorldFault.Chance q)) (err_err o)

    pub ended_run : (r : RunState (List ℕ) ℕ Kept)
        → Goes r a n
        → ((w : World (List ℕ) ℕ Kept) → r ≡ Running w → CanKeep (happens octets w e).0)
        → Stopped (coincidence_of p) ≡ turn in_octets octets r e
    unfolding Happens
    ended_run (Stopped coincidence) g k = absurd g
    ended_run (Running w) g k = by (next in_octets octets w e) (h w g.0 g.1 (k w refl))
      where
        by : (x : StepResult (List ℕ) ℕ Kept) → CameOut x b (Err p) → Stopped (coincidence_of p) ≡ after x
        by (Continues u l) o = absurd (ok_err (sym o.0))
        by (Stops coincidence) o = ap Stopped (ap coincidence_of (err_err o) ∙ coincidence_back coincidence)

-- what an event can be
pub event_good : (setup : Setup) (events : List Event) (e : Event)
    → IsSetup setup
    → AllOf IsEvent events
    → IsEvent e
    → (w : World (List ℕ) ℕ Kept)
    → octet_run setup events ≡ Running w
    → CanKeep (happens octets w e).0
event_good setup events e is are good w run = event_keeps setup events w is are run e good

pub event_can : (setup : Setup) (events : List Event) (e : Event) (a : Actors) (n : ℕ)
    → IsSetup setup
    → AllOf IsEvent events
    → IsEvent e
    → Goes (octet_run setup events) a n
    → EventCan a e
event_can setup events e a n is are good g = by (octet_run setup events) refl g
  where
    by : (r : RunState (List ℕ) ℕ Kept) → octet_run setup events ≡ r → Goes r a n → EventCan a e
    by (Running w) run h = record { before = w; are = h.0; can = event_good setup events e is are good w run }
    by (Stopped coincidence) run h = absurd h

-- CONDITIONS

pub may_happen : (setup : Setup) (e : Event) → CanHappen setup e → MayHappen e
may_happen setup (Event.Auth ksi key caps) c = c.0.0
may_happen setup (Event.Phone act) c = c.1
may_happen setup (Event.Station id act) c = c.1.1
may_happen setup (Event.Core act) c = tt
may_happen setup (Event.Deliver i) c = tt
may_happen setup (Event.Inject to text) c = c.0.0
