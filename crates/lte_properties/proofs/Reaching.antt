-- Each step of a legal run reaches an actor of its setup.
use Rattle.std.proofs.Common.{◌≡◌, sym, subst, ℕ, List, take, Some}
use Rattle.std.specs.{Prelude.All, Prelude.IsTrue, List.AllByRecursion as AllOf}
use Rattle.std.proofs.lemmas.List.Elements.{recursion_from_All}
use Rattle.lte_events.specs.Ranges.{has_station, IsEvent, IsSetup}
use Rattle.lte_events.specs.{Scenario.CanHappen, declared.events.Event.Event, declared.setups.Setup.Setup}
use Rattle.lte_events.proofs.InRange.{in_range}
use Rattle.key_model.specs.{Term.Term, Term.Root, Value.same_value}
use Rattle.lte_machine.specs.{BothRuns.annex_b_terms, ByEvent.IsStep, Ciphers.annex_b, Ciphers.octets_of, Opening.open_octets, Opening.open_by_uses, Run.run, Run.first_world, StationState.Station, Wire.Outgoing, World.Line, World.station_of_id}
use Rattle.lte_machine.specs.Machines.{sender_of, written_machine, written_in_values}
use Rattle.lte_machine.proofs.{AnnexB.annex_b_ciphers, EventByEvent.step_happens, EventByEvent.each_of_first, StationIds.run_ids, StationIds.still_here, StillRun.still_is_run, KnownLists.OfSome, KnownLists.all_get, Worlds.TheWorld}
use Rattle.lte_properties.specs.Reach.{AllReach, ReachesActor}
use Rattle.lte_properties.proofs.{EveryRun.reach, Named.Reaches.first_here, Named.Reaches.happens_reaches}

module _ (setup : Setup) (events : List Event) (set : IsSetup setup) (happen : All (CanHappen setup) events) where
  are : AllOf IsEvent events
  are = in_range setup events happen

  -- the stations of the setup are there after any events
  here : (es : List Event) (id : ℕ)
      → IsTrue (has_station setup.stations id)
      → (s : Station Term ℕ)
      × (station_of_id id (run (written_machine annex_b) (first_world setup) es).stations ≡ Some s)
  here es id h =
      let first = first_here setup.cells setup.stations id h in
      still_here id (run (written_machine annex_b) (first_world setup) es).stations
      (first_world {S = Outgoing Term ℕ} setup).stations
      (run_ids (written_machine annex_b) (first_world setup) es) first.0 first.1

  pub step_reaches : (k : ℕ) (w : TheWorld) (e : Event) (u : TheWorld) (line : Line Term) → IsStep setup events k w e u line → ReachesActor line
  step_reaches k w e u line is =
      let at : w ≡ run (written_machine annex_b) (first_world setup) (take k events) = still_is_run
      (open_octets annex_b_terms) (written_machine annex_b) (first_world setup) (take k events) w is.before in
      let all : AllReach setup w = reach annex_b annex_b_ciphers setup (take k events) w is.before set (each_of_first k events are) in
      let stay : (id : ℕ) → IsTrue (has_station setup.stations id) → (s : Station Term ℕ) × (station_of_id id w.stations ≡ Some s) =
      λ id h. subst (λ (v : TheWorld). (s : Station Term ℕ) × (station_of_id id v.stations ≡ Some s)) (sym at) (here (take k events) id h) in
      let can_e : CanHappen setup e =
      subst (OfSome (CanHappen setup)) is.event (all_get (CanHappen setup) events k (recursion_from_All (CanHappen setup) events happen)) in
      subst (λ (d : TheWorld × Line Term). ReachesActor d.1) (sym (step_happens setup events k w e u line is))
      (happens_reaches setup set same_value Root (octets_of annex_b_terms written_in_values) sender_of
      (open_by_uses same_value annex_b_terms) w all stay e can_e)
