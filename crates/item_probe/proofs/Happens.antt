-- Each act can happen to a system with the setup.
use Rattle.std.proofs.Common.{◌≡◌, ℕ, Bool, true, false, not, List, [], ◌∷◌, ◌++◌, All, Option, Some, None, IfSome, if◌then◌else◌, Result, Ok, Err, IfOk, length, ◌+◌, refl, sym, subst, arith, length-append, ◌==◌, ltb}
use Rattle.std.specs.List.{find, flat_map, list_all}
use Rattle.std.specs.Option.{option_map}
use Rattle.std.proofs.{lemmas.Bool.ltb-true, lemmas.List.Sums.AllPass-from_list_all}
use Rattle.std.proofs.lemmas.List.Elements.{All-nil, All-cons, All-head, All-tail, All-append}
use Rattle.annex_a_keys.specs.Cell.{IsCell, Place}
use Rattle.rec_base.specs.Ranges.{AreOctets}
use Rattle.lte_events.specs.Ranges.{has_station, IsSetup, IsSiteOf, IsStationAct, StationDoes}
use Rattle.lte_events.specs.{Scenario.CanHappen, Site.Site, declared.acts.StationAct.StationAct, declared.events.Event.Event, declared.setups.Setup.Setup, declared.setups.StationSetup.StationSetup}
use Rattle.lte_events.specs.declared.acts.PhoneAct.TheVariants as phone
use Rattle.lte_events.specs.declared.events.Event.TheVariants as event
use Rattle.item_outcomes.specs.Probe.{text_up, text_down, text_nas_up, text_nas_down, text_again, text_anew}
use Rattle.item_probe.specs.Places.{more_acts}
use Rattle.item_probe.specs.Acts.{acts_of, all_stations, at_station, behind, begins, connects, new_kasme, nothing, other_cell, own_cell, packets, phone_repeats, renewal, station_repeats, station_tries, texts, tries}

-- octets, by a test that computes
octets : (xs : List ℕ) → list_all (λ o. ltb o 256) xs ≡ true → AreOctets xs
octets xs h = λ k d within. ltb-true _ 256 (AllPass-from_list_all (λ o. ltb o 256) xs h k d within)

-- ACTS OF STATIONS

by_station : (setup : Setup) (id : ℕ) (act : StationAct) (b : Bool) → has_station setup.stations id ≡ b → IsStationAct act → StationDoes act →
    CanHappen setup (if b then event.Station id act else nothing)
by_station setup id act true there is does = (is, (there, does))
by_station setup id act false there is does = (tt, tt)

station_can : (setup : Setup) (id : ℕ) (act : StationAct) → IsStationAct act → StationDoes act → CanHappen setup (at_station setup id act)
station_can setup id act is does = by_station setup id act (has_station setup.stations id) refl is does

-- CELLS of the setup are in range

found : (stations : List StationSetup) (p : Site → Bool) (x : Site) (xs : List Site) (b : Bool) → IsSiteOf stations x →
    IfSome (option_map (λ site. site.cell) (find p xs)) IsCell →
    IfSome (option_map (λ site. site.cell) (if b then Some x else find p xs)) IsCell
found stations p x xs true is rest = is.0
found stations p x xs false is rest = rest

cell_found : (stations : List StationSetup) (p : Site → Bool) (xs : List Site) → All (IsSiteOf stations) xs →
    IfSome (option_map (λ site. site.cell) (find p xs)) IsCell
cell_found stations p [] all = tt
cell_found stations p (x ∷ xs) all =
    found stations p x xs (p x) (All-head (IsSiteOf stations) x xs all)
    (cell_found stations p xs (All-tail (IsSiteOf stations) x xs all))

own_found : (setup : Setup) (id : ℕ) → IsSetup setup → IfSome (own_cell setup.cells id) IsCell
own_found setup id is = cell_found setup.stations (λ site. site.station == id) setup.cells is.sites

other_found : (setup : Setup) (id : ℕ) → IsSetup setup → IfSome (other_cell setup.cells id) IsCell
other_found setup id is = cell_found setup.stations (λ site. not (site.station == id)) setup.cells is.sites

begins_can : (setup : Setup) (id : ℕ) (own other : Option Place) → IfSome own IsCell → IfSome other IsCell →
    CanHappen setup (begins setup id own other)
begins_can setup id own (Some other) p q = station_can setup id _ q tt
begins_can setup id (Some own) None p q = station_can setup id _ p tt
begins_can setup id None None p q = (tt, tt)

connects_can : (setup : Setup) (own : Option Place) → IfSome own IsCell → CanHappen setup (connects own)
connects_can setup (Some own) p = (p, tt)
connects_can setup None p = (tt, tt)

-- LISTS OF ACTS

all_two : {X : Type 0} (P : X → Type 0) (a b : X) → P a → P b → All P (a ∷ b ∷ [])
all_two P a b p q = All-cons P a (b ∷ []) p (All-cons P b [] q (All-nil P))

all_three : {X : Type 0} (P : X → Type 0) (a b c : X) → P a → P b → P c → All P (a ∷ b ∷ c ∷ [])
all_three P a b c p q r = All-cons P a (b ∷ c ∷ []) p (all_two P b c q r)

all_in : {X : Type 0} (P : X → Type 0) (f : ℕ → List X) (ids : List ℕ) → ((id : ℕ) → All P (f id)) → All P (flat_map f ids)
all_in P f [] each = All-nil P
all_in P f (id ∷ ids) each = All-append P (f id) (flat_map f ids) (each id) (all_in P f ids each)

phone_repeats_can : (setup : Setup) → All (CanHappen setup) phone_repeats
phone_repeats_can setup = all_two (CanHappen setup) _ _ (tt, tt) (tt, tt)

station_repeats_can : (setup : Setup) (id : ℕ) → All (CanHappen setup) (station_repeats setup id)
station_repeats_can setup id =
    all_three (CanHappen setup) _ _ _ (station_can setup id _ tt tt) (station_can setup id _ tt tt) (station_can setup id _ tt tt)

tries_can : (setup : Setup) → All (CanHappen setup) tries
tries_can setup =
    let idle : List Event = event.Phone phone.GoIdle ∷ [] in
    All-append (CanHappen setup) packets (texts ++ idle)
    (all_two (CanHappen setup) _ _ ((octets text_up refl, omega arith), tt) ((octets text_again refl, omega arith), tt))
    (all_three (CanHappen setup) _ _ _ ((octets text_nas_up refl, omega arith), tt) ((octets text_nas_down refl, omega arith), tt) (tt, tt))

station_tries_can : (setup : Setup) (id : ℕ) → IsSetup setup → All (CanHappen setup) (station_tries setup id)
station_tries_can setup id is =
    all_three (CanHappen setup) _ _ _ (station_can setup id _ (octets text_down refl, omega arith) tt)
    (begins_can setup id (own_cell setup.cells id) (other_cell setup.cells id) (own_found setup id is) (other_found setup id is))
    (connects_can setup (own_cell setup.cells id) (own_found setup id is))

renewal_can : (setup : Setup) → IsSetup setup → All (CanHappen setup) (renewal setup)
renewal_can setup is =
    all_three (CanHappen setup) _ _ _ ((omega arith, (octets new_kasme refl, refl), is.caps), tt) (tt, tt)
    ((octets text_anew refl, omega arith), tt)

-- each can happen where the events of the scenario can
pub acts_can : (setup : Setup) (events : List Event) → IsSetup setup → All (CanHappen setup) events →
    All (CanHappen setup) (acts_of setup events)
acts_can setup events is all =
    let P : Event → Type 0 = CanHappen setup in
    let again : List Event = flat_map (station_repeats setup) all_stations in
    let at_each : List Event = flat_map (station_tries setup) all_stations in
    let last : List Event = at_each ++ renewal setup in
    All-append P events (behind setup) all
    (All-append P phone_repeats (again ++ (tries ++ last)) (phone_repeats_can setup)
    (All-append P again (tries ++ last) (all_in P (station_repeats setup) all_stations (station_repeats_can setup))
    (All-append P tries last (tries_can setup)
    (All-append P at_each (renewal setup) (all_in P (station_tries setup) all_stations (λ id. station_tries_can setup id is))
    (renewal_can setup is)))))

-- how many there are
pub length-acts : (setup : Setup) (events : List Event) → length (acts_of setup events) ≡ length events + more_acts
length-acts setup events = length-append events (behind setup)

-- what holds of the list that is answered
pub ok_of : {T E X : Type 0} (items : T → List X) (P : List X → Type 0) (r : Result T E) (list : List X) → IfOk r (λ t. items t ≡ list) →
    P list → IfOk r (λ t. P (items t))
ok_of items P (Err e) list same h = tt
ok_of items P (Ok t) list same h = subst P (sym same) h
