-- The laws in octets: by the value of the world over terms.
use Rattle.std.proofs.Common.{◌≡◌, refl, sym, ap, ◌∙◌, subst, ℕ, ◌==◌, Bool, true, false, cond, List, [], ◌∷◌, Some, option_map}
use Rattle.std.specs.List.{AllByRecursion as AllOf}
use Rattle.alg_choice.specs.declared.algs.Algs.{Algs}
use Rattle.key_model.specs.{Chain.ncc_of, Reading.octet_reading, Term.Term, Term.Root, Value.value_of}
use Rattle.lte_events.specs.{Ranges.IsEvent, Ranges.IsSetup, declared.events.Event.Event, declared.setups.Setup.Setup}
use Rattle.pdcp_guard.specs.AsKeys.{map_as_keys}
use Rattle.lte_machine.specs.{ByEvent.in_octets, Carried.map_stations, PhoneState.map_link, PhoneState.map_radio, StationState.Station, StationState.map_station, World.next_root, World.station_of_id}
use Rattle.lte_machine.specs.StationState as state
use Rattle.lte_recovery.specs.Octets.{ReconnectedInOctets, ReconnectsInOctets, RestartsInOctets}
use Rattle.lte_recovery.specs.Reconnection.{TheWorld, Reconnected}
use Rattle.lte_recovery.proofs.Laws.{recovers_in, recovers_anew_in}

found_value : (id : ℕ) (ss : List (Station Term ℕ)) → option_map (map_station value_of ncc_of) (station_of_id id ss) ≡ station_of_id id (map_stations value_of ncc_of ss)
found_value id [] = refl
found_value id (s ∷ ss) = by (s.id == id) (found_value id ss)
  where
    by : (b : Bool) → option_map (map_station value_of ncc_of) (station_of_id id ss) ≡ station_of_id id (map_stations value_of ncc_of ss)
        → option_map (map_station value_of ncc_of) (cond b (Some s) (station_of_id id ss))
        ≡ cond b (Some (map_station value_of ncc_of s)) (station_of_id id (map_stations value_of ncc_of ss))
    by true is = refl
    by false is = is

-- what phone and station have, in octets
value_reconnected : (root : Term) (count id conn air : ℕ) (algs : Algs) (u : TheWorld) → Reconnected root count id conn air algs u
    → ReconnectedInOctets (octet_reading.kenb (value_of root) count) id air (in_octets u)
value_reconnected root count id conn air algs u k = record {
  link = map_link value_of ncc_of k.link;
  is_connected = ap (map_radio value_of ncc_of) k.is_connected;
  at_station = k.at_station;
  at_air = k.at_air;
  phone_kenb = ap value_of k.kenb;
  station = map_station value_of ncc_of k.station;
  there = sym (found_value id u.stations) ∙ ap (option_map (map_station value_of ncc_of)) k.there;
  context = state.map_context value_of ncc_of k.context;
  has = ap (option_map (state.map_context value_of ncc_of)) k.has;
  same_air = k.same_air;
  station_kenb = ap value_of (sym k.agree.0 ∙ k.kenb);
  agree = (ap value_of k.agree.0, ap ncc_of k.agree.1, ap (map_as_keys value_of) k.agree.2, k.agree.3);
  active = k.active;
}

module _ (setup : Setup) (events : List Event) (set : IsSetup setup) (are : AllOf IsEvent events) where
  pub recovers_in_octets : ReconnectsInOctets setup events
  recovers_in_octets w v cell runs value can =
      subst (ReconnectedInOctets (octet_reading.kenb (value_of can.phone.root) can.phone.send) can.station.id can.station.next) (sym value.value)
      (value_reconnected can.phone.root can.phone.send can.station.id w.core.next can.station.next can.algs value.world
      (recovers_in setup events set are w runs value.world cell value.runs can))

  pub recovers_anew_in_octets : RestartsInOctets setup events
  recovers_anew_in_octets w v cell ksi octets runs value can =
      let k = recovers_anew_in setup events set are w runs value.world cell ksi octets value.runs can in
      subst (ReconnectedInOctets (octet_reading.kenb octets 1) can.station.id can.station.next) (sym value.value)
      (value_reconnected (Root (next_root w) octets) 1 can.station.id k.0 can.station.next can.algs value.world k.1)
