-- A setup that was read is one that a system can start with.
use Rattle.std.proofs.Common.{◌≡◌, ℕ, ◌==◌, ◌≤◌, ◌^◌, ◌-◌, true, false, ◌&&◌, List, [], ◌∷◌, ◌++◌, length, refl, sym, ◌∙◌, subst, Some, None, Result, Ok, Err, All, arith, ⊎_elim, ◌⊎◌, inl, inr}
use Rattle.std.specs.Prelude.{IsTrue, IfOk, nat_le, nat_lt, if◌then◌else◌, slice_set}
use Rattle.std.specs.{Option.ok_or, List.list_any, List.IsDistinct, Cmp.IsEquivalence}
use Rattle.std.proofs.lemmas.Bool.{cases_Bool, and_parts, leb-true}
use Rattle.std.proofs.lemmas.List.{length-append, length-set, length-replicate}
use Rattle.std.proofs.{lemmas.Bool.Decides.nat_tests, lemmas.List.Folds.list_any-append, lemmas.Map.Keys.IsDistinct-push}
use Rattle.std.proofs.lemmas.List.Elements.{All-push, All-nil, All-set, All-replicate}
use Rattle.toml.specs.Data.{Items, no_items, item, Members, as_table}
use Rattle.alg_choice.specs.{declared.caps.Caps.Caps, Caps.IsCaps}
use Rattle.annex_a_keys.specs.Cell.{Place, IsCell}
use Rattle.lte_events.specs.{Site.Site, Site.is_site, declared.setups.FirstNcc.TheVariants.One, declared.setups.StationSetup.StationSetup}
use Rattle.lte_events.specs.Ranges.{has_station, IsStation, IsSiteOf, IsSetup}
use Rattle.rec_base.specs.Ranges.{IsNumber}
use Rattle.scenario_file.specs.declared.fields.Field.TheVariants.{Caps as CapsField, Phone, Core, Station, Step, First, FirstNcc, Priority, Id, Cells, Fleet, Phones}
use Rattle.scenario_file.specs.{declared.faults.Refusal.Refusal, declared.setup.CoreStart.CoreStart, declared.setup.Network.Network, declared.setup.Numbers.Numbers, declared.setup.Start.Start, declared.systems.System.System, Systems.more_at_top, Systems.more_of_station, Keys.only_in}
use Rattle.scenario_file.specs.declared.faults.Refusal.TheVariants.{Missing, Wrong}
use Rattle.scenario_file.specs.declared.systems.System.TheVariants as system
use Rattle.scenario_file.specs.Values.{or_default, number_in, first_in, first_ncc_in, priority_in, array_in, table_in, tables_in, cell_of, count_of}
use Rattle.scenario_file.specs.Setup.{usual_priority, phones_in, phones_of, phone_of, shared_in, core_in, core_of, id_in, with_site, sites_from, cells_in, core_number_in, with_station, station_from, stations_from, no_stations, network_of, start_of}
use Rattle.scenario_file.proofs.FirstFault.{then_ok, then_some, ok_or_ok, ok_same, not_read, default_ok, number_in_range}
use Rattle.scenario_file.proofs.Ranges.{caps_fit, cell_of_place}

first_good : (table : Members) (n : ℕ) → first_in First table ≡ Ok n → IsNumber n
first_good table n given =
    let range = number_in_range 1 (2 ^ 32 - 1) First table n given in
    (range.0, omega (arith, range.1))

numbers_good : (table : Members) (numbers : Numbers) → shared_in table ≡ Ok numbers → IsNumber numbers.first
unfolding shared_in
numbers_good table numbers =
    then_ok (IsNumber numbers.first) (or_default usual_priority priority_in Priority table) _ numbers (λ priority e more.
    then_ok (IsNumber numbers.first) (or_default 1 first_in First table) _ numbers (λ first read whole.
    let least : IsNumber first = default_ok IsNumber 1 first_in First table first (omega arith, omega arith) (λ n given. first_good table n given) read in
    subst (λ (n : Numbers). IsNumber n.first) (ok_same _ _ numbers refl whole) least) more)

core_in_good : (document : Members) (core : CoreStart) → core_in Core document ≡ Ok core → IsNumber core.numbers.first
unfolding core_in
core_in_good document core =
    then_ok (IsNumber core.numbers.first) (table_in Core document) _ core (λ table e1.
    then_ok (IsNumber core.numbers.first) (only_in (Priority ∷ First ∷ FirstNcc ∷ []) table) _ core (λ known e2.
    then_ok (IsNumber core.numbers.first) (shared_in table) _ core (λ numbers read_numbers.
    then_ok (IsNumber core.numbers.first) (or_default One first_ncc_in FirstNcc table) _ core (λ first_ncc e3 whole.
    subst (λ (c : CoreStart). IsNumber c.numbers.first) (ok_same _ _ core refl whole) (numbers_good table numbers read_numbers)))))

core_good : (document : Members) (core : CoreStart) → core_of document ≡ Ok core → IsNumber core.numbers.first
unfolding core_of
core_good document core =
    default_ok (λ (c : CoreStart). IsNumber c.numbers.first) _ core_in Core document core (omega arith, omega arith)
    (core_in_good document)

-- the core of each of eight stations, 0 or 1
abbrev AreCores : List ℕ → Type 0
AreCores cores = All (λ core. core ≤ 1) cores × (length cores ≡ 8)

core_good_at : (cores : List ℕ) (id core : ℕ) → AreCores cores → core ≤ 1 → AreCores (slice_set cores id core)
core_good_at cores id core good fits = (All-set (λ n. n ≤ 1) cores id core fits good.0, length-set cores id core ∙ good.1)

-- what holds of the stations read so far and of their cells
record GoodNetwork (network : Network) : Type 0 where
  stations : All IsStation network.stations
  ids_differ : IsDistinct (λ s t. s.id == t.id) network.stations
  sites : All (IsSiteOf network.stations) network.cells
  cores_fit : AreCores network.core_of

same_id : IsEquivalence {K = StationSetup} (λ s t. s.id == t.id)
same_id = record {
  refl = λ a. grind (arith, nat_tests);
  symm = λ a b. grind (arith, nat_tests);
  congr = λ a b c e. grind (arith, nat_tests);
}

-- a station that stands stands among one more, and so does the one more
stands_on : (stations : List StationSetup) (s : StationSetup) (id : ℕ) → IsTrue (has_station stations id) → IsTrue (has_station (stations ++ s ∷ []) id)
stands_on stations s id stands = rw (list_any-append, stands) refl

stands_itself : (stations : List StationSetup) (s : StationSetup) → IsTrue (has_station (stations ++ s ∷ []) s.id)
stands_itself stations s = rw list_any-append (grind (arith, nat_tests))

-- what holds of the cells so far and of each cell of a station holds of both
with_site_good : (P : Site → Type 0) (sites : List Site) (id : ℕ) (cell : Place) (more : List Site)
    → All P sites → P (record { station = id; cell = cell }) → with_site sites id cell ≡ Some more → All P more
with_site_good P sites id cell more old new = ⊎_elim
    (λ (yes : list_any (is_site cell) sites ≡ true). λ (found : with_site sites id cell ≡ Some more).
    let lost : None ≡ Some more = rw yes at found in absurd cc)
    (λ (no : list_any (is_site cell) sites ≡ false). λ (found : with_site sites id cell ≡ Some more).
    let kept : Some (sites ++ record { station = id; cell = cell } ∷ []) ≡ Some more = rw no at found in
    let same : sites ++ record { station = id; cell = cell } ∷ [] ≡ more = cc in
    subst (All P) same (All-push P sites _ old new))
    (cases_Bool (list_any (is_site cell) sites))

sites_good : (P : Site → Type 0) (sites : List Site) (id : ℕ) (values : Items) (more : List Site)
    → All P sites → ((cell : Place) → IsCell cell → P (record { station = id; cell = cell })) → sites_from sites id values ≡ Some more → All P more
sites_good P sites id no_items more old new found = let same : sites ≡ more = cc in subst (All P) same old
sites_good P sites id (item value values) more old new found =
    then_some (All P more) (cell_of value) _ more (λ cell e rest.
    then_some (All P more) (with_site sites id cell) _ more (λ next one last.
    sites_good P next id values more (with_site_good P sites id cell next old (new cell (cell_of_place value cell e)) one) new last) rest) found

few_good : (P : Site → Type 0) (sites : List Site) (id : ℕ) (values : Items) (more : List Site)
    → All P sites → ((cell : Place) → IsCell cell → P (record { station = id; cell = cell }))
    → (if nat_le 1 (count_of values) && nat_le (count_of values) 4 then sites_from sites id values else None) ≡ Some more → All P more
few_good P sites id values more old new = ⊎_elim
    (λ (yes : (nat_le 1 (count_of values) && nat_le (count_of values) 4) ≡ true).
    λ (found : (if nat_le 1 (count_of values) && nat_le (count_of values) 4 then sites_from sites id values
    else None)
    ≡ Some more).
    sites_good P sites id values more old new (rw yes at found))
    (λ (no : (nat_le 1 (count_of values) && nat_le (count_of values) 4) ≡ false).
    λ (found : (if nat_le 1 (count_of values) && nat_le (count_of values) 4 then sites_from sites id values
    else None)
    ≡ Some more).
    let lost : None ≡ Some more = rw no at found in absurd cc)
    (cases_Bool (nat_le 1 (count_of values) && nat_le (count_of values) 4))

cells_good : (P : Site → Type 0) (sites : List Site) (id : ℕ) (table : Members) (more : List Site)
    → All P sites → ((cell : Place) → IsCell cell → P (record { station = id; cell = cell })) → cells_in sites id table ≡ Ok more → All P more
unfolding cells_in
cells_good P sites id table more old new =
    then_ok (All P more) (array_in Cells table) _ more (λ values e read. few_good P sites id values more old new (ok_or_ok _ _ more read))

-- a number of a station is new, and 0 to 7
id_good : (stations : List StationSetup) (table : Members) (id : ℕ) → id_in stations table ≡ Ok id → (id ≤ 7) × (has_station stations id ≡ false)
unfolding id_in
id_good stations table id =
    then_ok ((id ≤ 7) × (has_station stations id ≡ false)) (number_in 0 7 Id table) _ id (λ n read new. ⊎_elim
    (λ (yes : has_station stations n ≡ true). not_read _ (Wrong Id) id refl (rw yes at new))
    (λ (no : has_station stations n ≡ false).
    subst (λ m. (m ≤ 7) × (has_station stations m ≡ false)) (ok_same _ n id refl (rw no at new)) ((number_in_range 0 7 Id table n read).1, no))
    (cases_Bool (has_station stations n)))

equal_turned : (a b : ℕ) → (a == b) ≡ (b == a)
equal_turned a b = grind (arith, nat_tests)

-- no station has a new number, asked from the one side or the other
apart : (stations : List StationSetup) (id : ℕ) → list_any (λ t. id == t.id) stations ≡ has_station stations id
apart [] id = refl
apart (s ∷ stations) id = rw (equal_turned id s.id, apart stations id) refl

one_more_good : (network : Network) (id : ℕ) (numbers : Numbers) (cells : List Site) (core : ℕ)
    → GoodNetwork network
    → (id ≤ 7) × (has_station network.stations id ≡ false)
    → IsNumber numbers.first
    → All (IsSiteOf (network.stations ++ record { id = id; priority = numbers.priority; first = numbers.first } ∷ [])) cells
    → core ≤ 1
    → GoodNetwork (record {
      stations = network.stations ++ record { id = id; priority = numbers.priority; first = numbers.first } ∷ [];
      cells = cells;
      core_of = slice_set network.core_of id core;
    })
one_more_good network id numbers cells core good new first are own = record {
  stations = All-push IsStation network.stations _ good.stations (new.0, first);
  ids_differ = IsDistinct-push same_id network.stations _ good.ids_differ (apart network.stations id ∙ new.1);
  sites = are;
  cores_fit = core_good_at network.core_of id core good.cores_fit own;
}

-- a core is 0 or 1
core_number_good : (table : Members) (core : ℕ) → core_number_in table ≡ Ok core → core ≤ 1
core_number_good table core = default_ok (λ n. n ≤ 1) 0 (number_in 0 1) Core table core (omega arith) (λ n read. (number_in_range 0 1 Core table n read).1)

-- one station more
with_station_good : (system : System) (network : Network) (table : Members) (next : Network)
    → GoodNetwork network
    → with_station system network table ≡ Ok next
    → GoodNetwork next
unfolding with_station
with_station_good system network table next good =
    then_ok (GoodNetwork next) (only_in (Id ∷ Priority ∷ First ∷ Cells ∷ more_of_station system) table) _ next (λ known e1.
    then_ok (GoodNetwork next) (id_in network.stations table) _ next (λ id read_id.
    then_ok (GoodNetwork next) (shared_in table) _ next (λ numbers read_numbers.
    then_ok (GoodNetwork next) (cells_in network.cells id table) _ next (λ cells read_cells.
    then_ok (GoodNetwork next) (core_number_in table) _ next (λ core read_core whole.
    subst GoodNetwork (ok_same _ _ next refl whole)
    (one_more_good network id numbers cells core good (id_good network.stations table id read_id) (numbers_good table numbers read_numbers)
    (cells_good (IsSiteOf (network.stations ++ record { id = id; priority = numbers.priority; first = numbers.first } ∷ [])) network.cells id table cells
    (λ k d below. ((good.sites k d below).0, stands_on network.stations _ _ (good.sites k d below).1))
    (λ cell fits. (fits, stands_itself network.stations (record { id = id; priority = numbers.priority; first = numbers.first })))
    read_cells)
    (core_number_good table core read_core)))))))

stations_good : (system : System) (network : Network) (values : Items) (next : Network)
    → GoodNetwork network
    → stations_from system network values ≡ Ok next
    → GoodNetwork next
stations_good system network no_items next good read = subst GoodNetwork (ok_same _ network next refl read) good
stations_good system network (item value values) next good read =
    then_ok (GoodNetwork next) (station_from system network value) _ next (λ one first rest.
    stations_good system one values next
    (then_ok (GoodNetwork one) (ok_or (as_table value) (Wrong Station)) _ one (λ table e more. with_station_good system network table one good more) first)
    rest) read

no_station : GoodNetwork no_stations
unfolding IsDistinct
no_station = record {
  stations = All-nil _;
  ids_differ = tt;
  sites = All-nil _;
  cores_fit = (All-replicate (λ core. core ≤ 1) 8 0 (omega arith), length-replicate {A = ℕ} 8 0);
}

-- AT LEAST ONE CELL

one_cell_more : (sites : List Site) (id : ℕ) (cell : Place) (more : List Site) → with_site sites id cell ≡ Some more → 1 ≤ length more
one_cell_more sites id cell more = ⊎_elim
    (λ (yes : list_any (is_site cell) sites ≡ true). λ (found : with_site sites id cell ≡ Some more).
    let lost : None ≡ Some more = rw yes at found in absurd cc)
    (λ (no : list_any (is_site cell) sites ≡ false). λ (found : with_site sites id cell ≡ Some more).
    let kept : Some (sites ++ record { station = id; cell = cell } ∷ []) ≡ Some more = rw no at found in
    let same : sites ++ record { station = id; cell = cell } ∷ [] ≡ more = cc in
    let long = length-append sites (record { station = id; cell = cell } ∷ []) in
    subst (λ (m : List Site). 1 ≤ length m) same (omega (arith, long)))
    (cases_Bool (list_any (is_site cell) sites))

cells_stay : (sites : List Site) (id : ℕ) (values : Items) (more : List Site)
    → (1 ≤ length sites) ⊎ (1 ≤ count_of values)
    → sites_from sites id values ≡ Some more
    → 1 ≤ length more
cells_stay sites id no_items more (inl some) found = let same : sites ≡ more = cc in subst (λ (m : List Site). 1 ≤ length m) same some
cells_stay sites id no_items more (inr none) found = absurd (omega (arith, none))
cells_stay sites id (item value values) more some found =
    then_some (1 ≤ length more) (cell_of value) _ more (λ cell e rest.
    then_some (1 ≤ length more) (with_site sites id cell) _ more (λ next one last.
    cells_stay next id values more (inl (one_cell_more sites id cell next one)) last) rest) found

if_few_cells : (sites : List Site) (id : ℕ) (values : Items) (more : List Site)
    → (if nat_le 1 (count_of values) && nat_le (count_of values) 4 then sites_from sites id values else None) ≡ Some more → 1 ≤ length more
if_few_cells sites id values more = ⊎_elim
    (λ (yes : (nat_le 1 (count_of values) && nat_le (count_of values) 4) ≡ true).
    λ (found : (if nat_le 1 (count_of values) && nat_le (count_of values) 4 then sites_from sites id values
    else None)
    ≡ Some more).
    cells_stay sites id values more (inr (leb-true 1 (count_of values) (and_parts _ _ yes).0)) (rw yes at found))
    (λ (no : (nat_le 1 (count_of values) && nat_le (count_of values) 4) ≡ false).
    λ (found : (if nat_le 1 (count_of values) && nat_le (count_of values) 4 then sites_from sites id values
    else None)
    ≡ Some more).
    let lost : None ≡ Some more = rw no at found in absurd cc)
    (cases_Bool (nat_le 1 (count_of values) && nat_le (count_of values) 4))

some_cells : (sites : List Site) (id : ℕ) (table : Members) (more : List Site) → cells_in sites id table ≡ Ok more → 1 ≤ length more
unfolding cells_in
some_cells sites id table more =
    then_ok (1 ≤ length more) (array_in Cells table) _ more (λ values e read. if_few_cells sites id values more (ok_or_ok _ _ more read))

station_has_cells : (system : System) (network : Network) (table : Members) (next : Network)
    → with_station system network table ≡ Ok next
    → 1 ≤ length next.cells
unfolding with_station
station_has_cells system network table next =
    then_ok (1 ≤ length next.cells) (only_in (Id ∷ Priority ∷ First ∷ Cells ∷ more_of_station system) table) _ next (λ known e1.
    then_ok (1 ≤ length next.cells) (id_in network.stations table) _ next (λ id read_id.
    then_ok (1 ≤ length next.cells) (shared_in table) _ next (λ numbers read_numbers.
    then_ok (1 ≤ length next.cells) (cells_in network.cells id table) _ next (λ cells read_cells.
    then_ok (1 ≤ length next.cells) (core_number_in table) _ next (λ core read_core whole.
    subst (λ (n : Network). 1 ≤ length n.cells) (ok_same _ _ next refl whole)
    (some_cells network.cells id table cells read_cells))))))

stations_have_cells : (system : System) (network : Network) (values : Items) (next : Network)
    → (1 ≤ length network.cells) ⊎ (1 ≤ count_of values)
    → stations_from system network values ≡ Ok next
    → 1 ≤ length next.cells
stations_have_cells system network no_items next (inl some) read = subst (λ (n : Network). 1 ≤ length n.cells) (ok_same _ network next refl read) some
stations_have_cells system network no_items next (inr none) read = absurd (omega (arith, none))
stations_have_cells system network (item value values) next some read =
    then_ok (1 ≤ length next.cells) (station_from system network value) _ next (λ one first rest.
    stations_have_cells system one values next
    (inl (then_ok (1 ≤ length one.cells) (ok_or (as_table value) (Wrong Station)) _ one
    (λ table e more. station_has_cells system network table one more) first))
    rest) read

-- what holds of all stations and of their cells
record WholeNetwork (network : Network) : Type 0 where
  good : GoodNetwork network
  some : 1 ≤ length network.cells

not_none : (n : ℕ) → (n == 0) ≡ false → 1 ≤ n
not_none n some = grind (arith, nat_tests, some)

abbrev from_tables : System → Items → Result Network Refusal
from_tables system values =
    if count_of values == 0 then Err (Missing Station)
    else (if nat_lt 8 (count_of values) then Err (Wrong Station) else stations_from system no_stations values)

some_good : (system : System) (values : Items) (network : Network) → from_tables system values ≡ Ok network
    → WholeNetwork network
some_good system values network = ⊎_elim
    (λ (none : (count_of values == 0) ≡ true). λ (read : from_tables system values ≡ Ok network). not_read _ (Missing Station) network refl (rw none at read))
    (λ (some : (count_of values == 0) ≡ false). λ (read : from_tables system values ≡ Ok network). ⊎_elim
    (λ (many : nat_lt 8 (count_of values) ≡ true). not_read _ (Wrong Station) network refl (rw many at (rw some at read)))
    (λ (few : nat_lt 8 (count_of values) ≡ false).
    let all : stations_from system no_stations values ≡ Ok network = rw few at (rw some at read) in
    record { good = stations_good system _ values network no_station all; some = stations_have_cells system _ values network (inr (not_none _ some)) all })
    (cases_Bool (nat_lt 8 (count_of values))))
    (cases_Bool (count_of values == 0))

network_good : (system : System) (document : Members) (network : Network) → network_of system document ≡ Ok network → WholeNetwork network
unfolding network_of
network_good system document network = then_ok (WholeNetwork network) (tables_in Station document) _ network
    (λ values e read. some_good system values network read)

phone_good : (document : Members) (caps : Caps) → phone_of document ≡ Ok caps → IsCaps caps
unfolding phone_of
phone_good document caps =
    then_ok (IsCaps caps) (table_in Phone document) _ caps (λ phone e more.
    then_ok (IsCaps caps) (only_in (CapsField ∷ []) phone) _ caps (λ known e read.
    caps_fit CapsField phone (Ok caps) (sym read)) more)

-- a fleet has 1 to 256 phones, and another system one
abbrev AreSome : ℕ → Type 0
AreSome phones = (1 ≤ phones) × (phones ≤ 256)

fleet_good : (document : Members) (phones : ℕ) → phones_in document ≡ Ok phones → AreSome phones
unfolding phones_in
fleet_good document phones =
    then_ok (AreSome phones) (table_in Fleet document) _ phones (λ fleet e more.
    then_ok (AreSome phones) (only_in (Phones ∷ []) fleet) _ phones (λ known e read. number_in_range 1 256 Phones fleet phones read) more)

phones_good : (system : System) (document : Members) (phones : ℕ) → phones_of system document ≡ Ok phones → AreSome phones
phones_good system.Single document phones read = subst AreSome (ok_same _ 1 phones refl read) (omega arith, omega arith)
phones_good system.Fleet document phones read = fleet_good document phones read
phones_good system.TwoCores document phones read = subst AreSome (ok_same _ 1 phones refl read) (omega arith, omega arith)

-- what holds of a start that was read
record GoodStart (start : Start) : Type 0 where
  can : IsSetup start.setup
  cells : 1 ≤ length start.setup.cells
  phones : AreSome start.phones
  cores : AreCores start.core_of

of_parts : (phones : ℕ) (caps : Caps) (core : CoreStart) (network : Network) → AreSome phones → IsCaps caps → IsNumber core.numbers.first → WholeNetwork network
    → GoodStart (record {
      setup = record {
        caps = caps;
        core_priority = core.numbers.priority;
        core_first = core.numbers.first;
        core_first_ncc = core.first_ncc;
        stations = network.stations;
        cells = network.cells;
      };
      phones = phones;
      core_of = network.core_of;
    })
of_parts phones caps core network phones_are caps_good core_is whole = let good = whole.good in record {
  can = record {
    caps = caps_good;
    core_first = core_is;
    stations = good.stations;
    ids_differ = good.ids_differ;
    sites = good.sites;
  };
  cells = whole.some;
  phones = phones_are;
  cores = good.cores_fit;
}

start_good : (system : System) (document : Members) (start : Start) → start_of system document ≡ Ok start → GoodStart start
unfolding start_of
start_good system document start =
    then_ok (GoodStart start) (only_in (Phone ∷ Core ∷ Station ∷ Step ∷ more_at_top system) document) _ start (λ known e1.
    then_ok (GoodStart start) (phones_of system document) _ start (λ phones read_phones.
    then_ok (GoodStart start) (phone_of document) _ start (λ caps read_caps.
    then_ok (GoodStart start) (core_of document) _ start (λ core read_core.
    then_ok (GoodStart start) (network_of system document) _ start (λ network read_network whole.
    subst GoodStart (ok_same _ _ start refl whole)
    (of_parts phones caps core network (phones_good system document phones read_phones)
    (phone_good document caps read_caps) (core_good document core read_core)
    (network_good system document network read_network)))))))

-- what is read of the start is something that a system can start with
pub start_can : (system : System) (document : Members) (r : Result Start Refusal) → r ≡ start_of system document → IfOk r (λ s. IsSetup s.setup)
start_can system document (Ok start) read = (start_good system document start (sym read)).can
start_can system document (Err refusal) read = tt

-- and there is a cell at least
pub start_cells : (system : System) (document : Members) (r : Result Start Refusal) → r ≡ start_of system document → IfOk r (λ s. 1 ≤ length s.setup.cells)
start_cells system document (Ok start) read = (start_good system document start (sym read)).cells
start_cells system document (Err refusal) read = tt

-- and a phone, and no more than a fleet has
pub start_phones : (system : System) (document : Members) (r : Result Start Refusal)
    → r ≡ start_of system document
    → IfOk r (λ s. (1 ≤ s.phones) × (s.phones ≤ 256))
start_phones system document (Ok start) read = (start_good system document start (sym read)).phones
start_phones system document (Err refusal) read = tt

-- and a core for each number of a station
pub start_cores : (system : System) (document : Members) (r : Result Start Refusal)
    → r ≡ start_of system document
    → IfOk r (λ s. All (λ core. core ≤ 1) s.core_of × (length s.core_of ≡ 8))
start_cores system document (Ok start) read = (start_good system document start (sym read)).cores
start_cores system document (Err refusal) read = tt
