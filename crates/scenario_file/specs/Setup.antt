-- What a system starts with: the tables of the fleet, the phone, the core and the stations.
use Rattle.std.specs.Prelude.{ℕ, ◌==◌, nat_le, nat_lt, ◌&&◌, if◌then◌else◌, List, [], ◌∷◌, ◌++◌, replicate, slice_set, Option, Some, None, option_and_then, Result, Ok, Err}
use Rattle.std.specs.{Option.ok_or, List.list_any}
use Rattle.toml.specs.Data.{Data, Items, no_items, item, Members, as_table}
use Rattle.alg_choice.specs.{declared.algs.Eea.Eea, declared.caps.Caps.Caps}
use Rattle.alg_choice.specs.declared.algs.Eea.TheVariants.{Eea0, Eea2}
use Rattle.annex_a_keys.specs.Cell.{Place}
use Rattle.lte_events.specs.{Site.Site, Site.is_site, declared.setups.FirstNcc.TheVariants.One, declared.setups.StationSetup.StationSetup, Ranges.has_station}
use Rattle.scenario_file.specs.{declared.fields.Field.Field, declared.faults.Refusal.Refusal, declared.setup.CoreStart.CoreStart, declared.setup.Network.Network, declared.setup.Numbers.Numbers, declared.setup.Start.Start, declared.systems.System.System, Systems.more_at_top, Systems.more_of_station, Keys.only_in}
use Rattle.scenario_file.specs.declared.fields.Field.TheVariants.{Phone, Core, Station, Step, Caps as CapsField, Priority, First, FirstNcc, Id, Cells, Fleet, Phones}
use Rattle.scenario_file.specs.declared.faults.Refusal.TheVariants.{Missing, Wrong}
use Rattle.scenario_file.specs.declared.systems.System.TheVariants as system
use Rattle.scenario_file.specs.Values.{◌>>=◌, or_default, table_in, tables_in, array_in, count_of, number_in, first_in, first_ncc_in, caps_in, priority_in, cell_of}

-- 128-EEA2 before EEA0, where no list is given
abbrev pub usual_priority : List Eea
usual_priority = Eea2 ∷ Eea0 ∷ []

-- [fleet]: how many phones
unfoldable pub phones_in : Members → Result ℕ Refusal
phones_in document = do
  fleet ← table_in Fleet document
  known ← only_in (Phones ∷ []) fleet
  number_in 1 256 Phones fleet

-- one phone where there is no fleet
abbrev pub phones_of : System → Members → Result ℕ Refusal
phones_of system.Single document = Ok 1
phones_of system.Fleet document = phones_in document
phones_of system.TwoCores document = Ok 1

-- [phone]
unfoldable pub phone_of : Members → Result Caps Refusal
phone_of document = do
  phone ← table_in Phone document
  known ← only_in (CapsField ∷ []) phone
  caps_in CapsField phone

-- what the core and a station share
unfoldable pub shared_in : Members → Result Numbers Refusal
shared_in table = do
  priority ← or_default usual_priority priority_in Priority table
  first ← or_default 1 first_in First table
  Ok (record { priority = priority; first = first })

-- [core]
unfoldable pub core_in : Field → Members → Result CoreStart Refusal
core_in field document = do
  core ← table_in field document
  known ← only_in (Priority ∷ First ∷ FirstNcc ∷ []) core
  numbers ← shared_in core
  first_ncc ← or_default One first_ncc_in FirstNcc core
  Ok (record { numbers = numbers; first_ncc = first_ncc })

abbrev pub usual_core : CoreStart
usual_core = record { numbers = record { priority = usual_priority; first = 1 }; first_ncc = One }

unfoldable pub core_of : Members → Result CoreStart Refusal
core_of document = or_default usual_core core_in Core document

-- the number of a station, which none before it has
unfoldable pub id_in : List StationSetup → Members → Result ℕ Refusal
id_in stations table = do
  id ← number_in 0 7 Id table
  if has_station stations id then Err (Wrong Id) else Ok id

-- one cell more, which no station has
abbrev pub with_site : List Site → ℕ → Place → Option (List Site)
with_site sites id cell =
    if list_any (is_site cell) sites then None else Some (sites ++ record { station = id; cell = cell } ∷ [])

abbrev pub sites_from : List Site → ℕ → Items → Option (List Site)
sites_from sites id no_items = Some sites
sites_from sites id (item value values) =
    option_and_then (λ cell. option_and_then (λ more. sites_from more id values) (with_site sites id cell)) (cell_of value)

-- 1 to 4 cells of a station
unfoldable pub cells_in : List Site → ℕ → Members → Result (List Site) Refusal
cells_in sites id table = do
  values ← array_in Cells table
  ok_or (if nat_le 1 (count_of values) && nat_le (count_of values) 4 then sites_from sites id values else None) (Wrong Cells)

-- the core of a station: the one that there is, or of two cores the first, where none is given
abbrev pub core_number_in : Members → Result ℕ Refusal
core_number_in table = or_default 0 (number_in 0 1) Core table

-- one [[station]] more
unfoldable pub with_station : System → Network → Members → Result Network Refusal
with_station system network table = do
  known ← only_in (Id ∷ Priority ∷ First ∷ Cells ∷ more_of_station system) table
  id ← id_in network.stations table
  numbers ← shared_in table
  cells ← cells_in network.cells id table
  core ← core_number_in table
  Ok (record {
    stations = network.stations ++ record { id = id; priority = numbers.priority; first = numbers.first } ∷ [];
    cells = cells;
    core_of = slice_set network.core_of id core;
  })

abbrev pub station_from : System → Network → Data → Result Network Refusal
station_from system network value = ok_or (as_table value) (Wrong Station) >>= λ table. with_station system network table

-- the [[station]] in their order
abbrev pub stations_from : System → Network → Items → Result Network Refusal
stations_from system network no_items = Ok network
stations_from system network (item value values) = station_from system network value >>= λ next. stations_from system next values

-- no station yet
abbrev pub no_stations : Network
no_stations = record { stations = []; cells = []; core_of = replicate 8 0 }

-- 1 to 8 stations
unfoldable pub network_of : System → Members → Result Network Refusal
network_of system document = do
  values ← tables_in Station document
  if count_of values == 0 then Err (Missing Station)
      else (if nat_lt 8 (count_of values) then Err (Wrong Station) else stations_from system no_stations values)

-- what the system of a document starts with
unfoldable pub start_of : System → Members → Result Start Refusal
start_of system document = do
  known ← only_in (Phone ∷ Core ∷ Station ∷ Step ∷ more_at_top system) document
  phones ← phones_of system document
  caps ← phone_of document
  core ← core_of document
  network ← network_of system document
  Ok (record {
    setup = record {
      caps = caps;
      core_priority = core.numbers.priority;
      core_first = core.numbers.first;
      core_first_ncc = core.first_ncc;
      stations = network.stations;
      cells = network.cells;
    };
    phones = phones;
    core_of = network.core_of;
  })
