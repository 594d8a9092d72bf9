-- The address of a line, in the run in octets and in that over terms.
use Rattle.std.proofs.Common.{◌≡◌, refl, ap, ◌∙◌, ℕ, suc, ◌==◌, Bool, true, false, cond, List, [], ◌∷◌, take, Option, Some, None, option_map}
use Rattle.std.specs.{Prelude.slice_get, List.AllByRecursion as AllOf}
use Rattle.key_model.specs.{Chain.ncc_of, Term.Term, Value.value_of}
use Rattle.lte_events.specs.{Ranges.IsEvent, Ranges.IsSetup, declared.events.Event.Event, declared.lines.Who.Who, declared.setups.Setup.Setup}
use Rattle.lte_machine.specs.{BothRuns.written_run, ByEvent.in_octets, Carried.map_stations, Carried.run_value, Ciphers.annex_b, Run.Running, StationState.Station, StationState.map_station, World.station_of_id}
use Rattle.lte_machine.specs.PhoneState.{Radio, Idle, Connecting, Connected, map_radio}
use Rattle.lte_machine.proofs.{AnnexB.annex_b_ciphers, EventByEvent.each_of_first, WholeRun.run_is_value, Worlds.TheWorld}
use Rattle.item_lines.specs.declared.lines.Told.{Told}
use Rattle.item_runs.specs.Course.{place_in, place_of, Placed}
use Rattle.lte_world.specs.Whole.{address_of, station_air}
use Rattle.ue_context.specs.Step.{air_of}

radio_value : (r : Radio Term ℕ) → air_of (map_radio value_of ncc_of r) ≡ air_of r
radio_value Idle = refl
radio_value (Connecting waiting) = refl
radio_value (Connected l) = refl

station_value : (id : ℕ) (ss : List (Station Term ℕ)) → station_of_id id (map_stations value_of ncc_of ss) ≡ option_map (map_station value_of ncc_of) (station_of_id id ss)
station_value id [] = refl
station_value id (s ∷ ss) = by (s.id == id) (station_value id ss)
  where
    by : (b : Bool) → station_of_id id (map_stations value_of ncc_of ss) ≡ option_map (map_station value_of ncc_of) (station_of_id id ss)
        → cond b (Some (map_station value_of ncc_of s)) (station_of_id id (map_stations value_of ncc_of ss))
        ≡ option_map (map_station value_of ncc_of) (cond b (Some s) (station_of_id id ss))
    by true rest = refl
    by false rest = rest

air_value : (o : Option (Station Term ℕ)) → station_air (option_map (map_station value_of ncc_of) o) ≡ station_air o
air_value None = refl
air_value (Some s) = refl

address_value : (w : TheWorld) (who : Who) → address_of (in_octets w) who ≡ address_of w who
address_value w Who.Phone = radio_value w.phone.radio
address_value w (Who.Station id) = ap station_air (station_value id w.stations) ∙ air_value (station_of_id id w.stations)
address_value w Who.Core = refl
address_value w Who.Both = refl
address_value w Who.World = refl

pub placed_written : (setup : Setup) (events : List Event) (told : List Told)
    → IsSetup setup
    → AllOf IsEvent events
    → Placed setup events told
    → (k : ℕ) (t : Told) (w : TheWorld)
    → slice_get told k ≡ Some t
    → written_run setup (take (suc k) events) ≡ Running w
    → t.at ≡ address_of w t.line.who
unfolding place_of
placed_written setup events told set are placed k t w at runs =
    placed k t at
    ∙ ap (λ r. place_in r t.line.who)
    (run_is_value annex_b annex_b_ciphers setup set (take (suc k) events) (each_of_first (suc k) events are) ∙ ap (run_value annex_b) runs)
    ∙ address_value w t.line.who
