-- The stations of a run are those of its setup.
use Rattle.std.proofs.Common.{◌≡◌, refl, ap, ◌∙◌, ℕ, ◌==◌, Bool, true, false, cond, List, [], ◌∷◌, map, Some}
use Rattle.std.specs.Prelude.{◌||◌, is_some}
use Rattle.lte_events.specs.{Ranges.has_station, Site.Site, declared.events.Event.Event, declared.setups.Setup.Setup, declared.setups.StationSetup.StationSetup}
use Rattle.lte_machine.specs.{BothRuns.octet_run, Ciphers.annex_b, Machines.Kept, Opening.open_octets, StationState.Station, World.World, World.station_of_id}
use Rattle.lte_machine.specs.Run.{Running, run, first_world, stations_of}
use Rattle.lte_machine.proofs.{StationIds.ids_of, StationIds.run_ids, StillRun.still_is_run}
use Rattle.lte_world.specs.Systems.{octets}

abbrev TheStation : Type 0
TheStation = Station (List ℕ) ℕ

-- the stations of a setup have its numbers
pub first_ids : (cells : List Site) (setups : List StationSetup) → ids_of {K = List ℕ} {C = ℕ} (stations_of cells setups) ≡ map (λ s. s.id) setups
first_ids cells [] = refl
first_ids cells (s ∷ ss) = ap (λ xs. s.id ∷ xs) (first_ids cells ss)

-- a number stands in a list of stations as in the other
stands_as : (id : ℕ) (ss : List StationSetup) (ts : List TheStation) → ids_of ts ≡ map (λ s. s.id) ss → is_some (station_of_id id ts) ≡ has_station ss id
stands_as id [] [] e = refl
stands_as id [] (t ∷ ts) e = absurd cc
stands_as id (s ∷ ss) [] e = absurd cc
stands_as id (s ∷ ss) (t ∷ ts) e =
    let one : t.id ≡ s.id = cc in
    let more : ids_of ts ≡ map (λ s. s.id) ss = cc in
    by (t.id == id) (stands_as id ss ts more) ∙ ap (λ n. (n == id) || has_station ss id) one
  where
    by : (b : Bool) → is_some (station_of_id id ts) ≡ has_station ss id → is_some (cond b (Some t) (station_of_id id ts)) ≡ (b || has_station ss id)
    by true rest = refl
    by false rest = rest

-- the stations of a run are those of the setup
pub stations_stand : (setup : Setup) (events : List Event) (w : World (List ℕ) ℕ Kept) → octet_run setup events ≡ Running w
    → (id : ℕ) → is_some (station_of_id id w.stations) ≡ has_station setup.stations id
stations_stand setup events w runs id =
    let here : w ≡ run octets (first_world setup) events = still_is_run (open_octets annex_b) octets (first_world setup) events w runs in
    stands_as id setup.stations w.stations
    (ap (λ (v : World (List ℕ) ℕ Kept). ids_of v.stations) here ∙ run_ids octets (first_world setup) events ∙ first_ids setup.cells setup.stations)
