-- No event that can happen to a setup comes to a station that it does not have.
use Rattle.std.proofs.Common.{◌≡◌, refl, subst, ℕ, ◌==◌, Bool, true, false, cond, List, [], ◌∷◌, Option, Some, None, option_map}
use Rattle.std.specs.Prelude.{◌||◌, IsTrue, find}
use Rattle.std.specs.List.{position_from}
use Rattle.std.proofs.lemmas.Bool.{eq-eqb, or_left, or_right}
use Rattle.std.proofs.lemmas.List.Elements.{recursion_from_All}
use Rattle.alg_choice.specs.declared.caps.Caps.{Caps}
use Rattle.annex_a_keys.specs.Cell.{Place}
use Rattle.lte_events.specs.Ranges.{has_station, TakesInjected, IsSiteOf, IsSetup}
use Rattle.lte_events.specs.{Scenario.IsThere, Scenario.CanHappen, declared.addresses.Address.Address, declared.events.Event.Event, declared.setups.Setup.Setup, declared.setups.StationSetup.StationSetup, Class.class_of}
use Rattle.lte_events.specs.Site.{Site, is_site, station_of}
use Rattle.key_model.specs.Term.{Term}
use Rattle.lte_machine.specs.{Opening.Opening, Opening.Outcome, Run.stations_of, Run.first_world}
use Rattle.lte_machine.specs.StationState.{Station, StationInput, StationActs, AirPdu, StationRecord, OnS1, OnX2}
use Rattle.lte_machine.specs.Wire.{KeyUse, Outgoing, address_of}
use Rattle.lte_machine.specs.World.{Machine, World, station_of_id, turn_of, station_turn, auth_unless, known_root, next_root, content_in, arrives, record_at, delivery, is_sent, injected, happens}
use Rattle.lte_properties.specs.{ChainBelow.AllOf, ChainHolds.machine_by}
use Rattle.lte_properties.specs.Reach.{IsAmong, AllReach, ReachesActor}
use Rattle.lte_properties.proofs.{ChainNumbers.Lists.OfSome, ChainNumbers.Lists.all_chosen, Named.Facts.StationNamed, Named.World.AllNamed}

abbrev Has : Setup → ℕ → Type 0
Has setup id = IsTrue (has_station setup.stations id)

-- THE FIRST WORLD

-- the station of a cell of a setup is one of it
pub site_has : (stations : List StationSetup) (sites : List Site)
    → AllOf (IsSiteOf stations) sites
    → (cell : Place) (id : ℕ)
    → station_of cell sites ≡ Some id
    → IsTrue (has_station stations id)
site_has stations [] h cell id e = absurd cc
site_has stations (site ∷ sites) ((_, has), others) cell id e = by (is_site cell site) e (site_has stations sites others cell id)
  where
    by : (b : Bool)
        → option_map (λ s. s.station) (cond b (Some site) (find (is_site cell) sites)) ≡ Some id
        → (station_of cell sites ≡ Some id → IsTrue (has_station stations id))
        → IsTrue (has_station stations id)
    by true f rest = let one : site.station ≡ id = cc in subst (λ n. IsTrue (has_station stations n)) one has
    by false f rest = rest f

first_stations : (setup : Setup) (ss : List StationSetup)
    → ((id : ℕ) → IsTrue (has_station ss id) → Has setup id)
    → AllOf (λ s. StationNamed (Has setup) setup.cells s) (stations_of {K = Term} {C = ℕ} setup.cells ss)
first_stations setup [] f = tt
first_stations setup (s ∷ ss) f = (
  (f s.id (or_left (s.id == s.id) (has_station ss s.id) (eq-eqb s.id s.id refl)), refl, tt, tt),
  first_stations setup ss (λ id i. f id (or_right (s.id == id) (has_station ss id) i)),
)

pub first_here : (cells : List Site) (ss : List StationSetup) (id : ℕ)
    → IsTrue (has_station ss id)
    → (s : Station Term ℕ) × (station_of_id id (stations_of {K = Term} {C = ℕ} cells ss) ≡ Some s)
first_here cells [] id h = absurd cc
first_here cells (x ∷ xs) id h = by (x.id == id) _ h (first_here cells xs id)
  where
    by : (b : Bool) (t : Station Term ℕ)
        → IsTrue (b || has_station xs id)
        → (IsTrue (has_station xs id)
        → (s : Station Term ℕ) × (station_of_id id (stations_of {K = Term} {C = ℕ} cells xs) ≡ Some s))
        → (s : Station Term ℕ) × (cond b (Some t) (station_of_id id (stations_of {K = Term} {C = ℕ} cells xs)) ≡ Some s)
    by true t h rest = (t, refl)
    by false t h rest = rest h

module _ (setup : Setup) (set : IsSetup setup) where
  abbrev pub sites : (cell : Place) (id : ℕ) → station_of cell setup.cells ≡ Some id → Has setup id
  sites = site_has setup.stations setup.cells (recursion_from_All (IsSiteOf setup.stations) setup.cells set.sites)

  pub first_named : AllNamed (Has setup) setup.cells sites (first_world setup)
  first_named = record { core = (refl, tt); stations = first_stations setup setup.stations (λ id i. i); sent = tt; made = tt }

  -- EVERY EVENT

  module _ (same : Term → Term → Bool) (root : ℕ → List ℕ → Term) (octets : Outgoing Term ℕ → List ℕ)
      (sender : Option (Outgoing Term ℕ) → Option (KeyUse Term))
      (opener : Opening Term → List ℕ → Option (Outgoing Term ℕ) → Outcome)
      (w : World Term ℕ (Outgoing Term ℕ)) (reach : AllReach setup w)
      (here : (id : ℕ) → Has setup id → (s : Station Term ℕ) × (station_of_id id w.stations ≡ Some s)) where
    abbrev m : Machine Term ℕ (Outgoing Term ℕ)
    m = machine_by same root octets sender opener

    turn_reaches : (id : ℕ) (i : StationInput Term ℕ) (came : Option (Outgoing Term ℕ)) (o : Option (Station Term ℕ))
        (s : Station Term ℕ)
        → o ≡ Some s
        → ReachesActor (turn_of m w id i came o).1
    turn_reaches id i came None s e = absurd cc
    turn_reaches id i came (Some t) s e = λ who. absurd cc

    station_reaches : (id : ℕ) (i : StationInput Term ℕ) (came : Option (Outgoing Term ℕ)) → Has setup id → ReachesActor (station_turn m w id i came).1
    station_reaches id i came h = let k = here id h in turn_reaches id i came (station_of_id id w.stations) k.0 k.1

    arrives_reaches : (to : Address) → IsAmong (Has setup) to → (pdu : List ℕ) (came : Option (Outgoing Term ℕ)) → ReachesActor (arrives m w to pdu came).1
    arrives_reaches (Address.StationAir station air bearer) h pdu came = station_reaches station (AirPdu air bearer pdu) came h
    arrives_reaches (Address.StationS1 station) h pdu came = station_reaches station (StationRecord OnS1 (content_in m came)) came h
    arrives_reaches (Address.StationX2 station) h pdu came = station_reaches station (StationRecord OnX2 (content_in m came)) came h
    arrives_reaches other h pdu came = λ who. absurd cc

    delivered_reaches : (o : Option (Outgoing Term ℕ)) → OfSome (λ x. IsAmong (Has setup) (address_of x)) o → ReachesActor (delivery m w o).1
    delivered_reaches None h = λ who e. absurd cc
    delivered_reaches (Some x) h = arrives_reaches (address_of x) h (m.octets x) (Some x)

    injected_reaches : (to : Address) → IsAmong (Has setup) to → (pdu : List ℕ) (o : Option ℕ) → ReachesActor (injected m w to pdu o).1
    injected_reaches to h pdu None = arrives_reaches to h pdu None
    injected_reaches to h pdu (Some number) = λ who e. absurd cc

    auth_reaches : (ksi : ℕ) (key : Term) (caps : Caps) (o : Option ℕ) → ReachesActor (auth_unless m w ksi key caps o).1
    auth_reaches ksi key caps None = λ who. absurd cc
    auth_reaches ksi key caps (Some row) = λ who e. absurd cc

    may_come : (to : Address) → TakesInjected to → IsThere setup to → IsAmong (Has setup) to
    may_come (Address.StationAir station air bearer) takes there = there
    may_come (Address.StationS1 station) takes there = absurd takes
    may_come (Address.StationX2 station) takes there = absurd takes
    may_come other takes there = tt

    pub happens_reaches : (e : Event) → CanHappen setup e → ReachesActor (happens m w e).1
    happens_reaches (Event.Auth ksi key caps) can =
        let k = m.root (next_root w) key in auth_reaches ksi k caps (known_root m w k)
    happens_reaches (Event.Phone act) can = λ who. absurd cc
    happens_reaches (Event.Station id act) (_, (has, _)) = station_reaches id (StationActs act) None has
    happens_reaches (Event.Core act) can = λ who. absurd cc
    happens_reaches (Event.Deliver i) can = delivered_reaches (record_at i w.sent) (all_chosen (λ x. IsAmong (Has setup) (address_of x)) i w.sent reach)
    happens_reaches (Event.Inject to pdu) ((takes, _), there) = injected_reaches to (may_come to takes there) pdu (position_from (is_sent m (class_of to) pdu) 0 w.sent)
