-- The acts that variants of a scenario run over: its own events, behind them those by which messages are sent again, and behind these
-- those of the probe. Which station serves is known only as the probe goes on, so those of a station are there for each of eight.
use Rattle.std.specs.Prelude.{◌≡◌, ℕ, ◌<◌, ◌==◌, not, if◌then◌else◌, List, [], ◌∷◌, ◌++◌, codes, find, slice_get, Option, Some, None}
use Rattle.std.specs.{List.flat_map, Option.option_map}
use Rattle.annex_a_keys.specs.Cell.{Place}
use Rattle.rec_base.specs.declared.bearers.Bearer.TheVariants.{Drb1}
use Rattle.lte_events.specs.{Ranges.has_station, Site.Site, declared.acts.StationAct.StationAct, declared.events.Event.Event, declared.setups.Setup.Setup}
use Rattle.lte_events.specs.declared.acts.CoreAct.TheVariants as core
use Rattle.lte_events.specs.declared.acts.HoKind.TheVariants.{X2, Intra}
use Rattle.lte_events.specs.declared.acts.PhoneAct.TheVariants as phone
use Rattle.lte_events.specs.declared.acts.StationAct.TheVariants as station
use Rattle.lte_events.specs.declared.events.Event.TheVariants as event
use Rattle.item_faults.specs.Steps.{ask, cancel, command, resend, service}
use Rattle.item_outcomes.specs.Probe.{text_up, text_down, text_nas_up, text_nas_down, text_again, text_anew}
use Rattle.item_probe.specs.Places.{authenticates, begins_at, begins_security, connects_at, go_idle, send_again, send_anew, send_down, send_nas_down, send_nas_up, send_up}

-- stands where there is nothing to do: the phone passes over no COUNT
abbrev pub nothing : Event
nothing = event.Phone (phone.Skip None 0)

-- an act of a station, if the setup has it
abbrev pub at_station : Setup → ℕ → StationAct → Event
at_station setup id act = if has_station setup.stations id then event.Station id act else nothing

abbrev pub all_stations : List ℕ
all_stations = 0 ∷ 1 ∷ 2 ∷ 3 ∷ 4 ∷ 5 ∷ 6 ∷ 7 ∷ []

-- BY WHICH MESSAGES ARE SENT AGAIN: their places are in Steps of item_faults
abbrev pub phone_repeats : List Event
phone_repeats = event.Phone phone.ResendComplete ∷ event.Phone phone.ServiceRequest ∷ []

abbrev pub station_repeats : Setup → ℕ → List Event
station_repeats setup id = at_station setup id station.Command ∷ at_station setup id station.Ask ∷ at_station setup id station.Cancel ∷ []

-- THE PROBE: packets up, the last behind a Service Request; NAS texts up and down; idle
abbrev pub packets : List Event
packets = event.Phone (phone.SendUser Drb1 text_up) ∷ event.Phone (phone.SendUser Drb1 text_again) ∷ []

abbrev pub texts : List Event
texts = event.Phone (phone.SendNas text_nas_up) ∷ event.Core (core.SendNas text_nas_down) ∷ []

abbrev pub tries : List Event
tries = packets ++ (texts ++ event.Phone phone.GoIdle ∷ [])

-- the first cell of a station, and the first of another one
abbrev pub own_cell : List Site → ℕ → Option Place
own_cell cells id = option_map (λ site. site.cell) (find (λ site. site.station == id) cells)

abbrev pub other_cell : List Site → ℕ → Option Place
other_cell cells id = option_map (λ site. site.cell) (find (λ site. not (site.station == id)) cells)

-- a station begins a handover over X2 to the first other one, or within itself where there is no other
abbrev pub begins : Setup → ℕ → Option Place → Option Place → Event
begins setup id own (Some other) = at_station setup id (station.Start X2 other)
begins setup id (Some own) None = at_station setup id (station.Start Intra own)
begins setup id None None = nothing

-- the core sets up the context of the phone at a station
abbrev pub connects : Option Place → Event
connects None = nothing
connects (Some own) = event.Core (core.Connect own)

-- a packet down, a handover, a connection
abbrev pub station_tries : Setup → ℕ → List Event
station_tries setup id =
    at_station setup id (station.SendUser Drb1 text_down) ∷ begins setup id (own_cell setup.cells id) (other_cell setup.cells id)
    ∷ connects (own_cell setup.cells id) ∷ []

-- an authentication with a KASME that no other one has, by which the core learns the phone's own capabilities; Security Mode; a packet
abbrev pub new_kasme : List ℕ
new_kasme = codes "a KASME of the probe, 32 octets."

abbrev pub renewal : Setup → List Event
renewal setup =
    event.Auth 0 new_kasme setup.caps ∷ event.Core core.StartSmc ∷ event.Phone (phone.SendUser Drb1 text_anew) ∷ []

-- THE ACTS
abbrev pub behind : Setup → List Event
behind setup =
    phone_repeats
    ++ (flat_map (station_repeats setup) all_stations ++ (tries ++ (flat_map (station_tries setup) all_stations ++ renewal setup)))

abbrev pub acts_of : Setup → List Event → List Event
acts_of setup events = events ++ behind setup

-- WHAT STANDS WHERE, behind so many steps
abbrev pub StandsAt : List Event → ℕ → Event → Type 0
StandsAt acts at e = slice_get acts at ≡ Some e

pub record OfStation (setup : Setup) (steps : ℕ) (acts : List Event) (id : ℕ) : Type 0 where
  pub commands : StandsAt acts (command steps id) (at_station setup id station.Command)
  pub asks : StandsAt acts (ask steps id) (at_station setup id station.Ask)
  pub cancels : StandsAt acts (cancel steps id) (at_station setup id station.Cancel)
  pub sends : StandsAt acts (send_down steps id) (at_station setup id (station.SendUser Drb1 text_down))
  pub hands_over : StandsAt acts (begins_at steps id) (begins setup id (own_cell setup.cells id) (other_cell setup.cells id))
  pub is_given : StandsAt acts (connects_at steps id) (connects (own_cell setup.cells id))

pub record AreInPlace (setup : Setup) (steps : ℕ) (acts : List Event) : Type 0 where
  pub resends : StandsAt acts (resend steps) (event.Phone phone.ResendComplete)
  pub asks : StandsAt acts (service steps) (event.Phone phone.ServiceRequest)
  pub up : StandsAt acts (send_up steps) (event.Phone (phone.SendUser Drb1 text_up))
  pub again : StandsAt acts (send_again steps) (event.Phone (phone.SendUser Drb1 text_again))
  pub nas_up : StandsAt acts (send_nas_up steps) (event.Phone (phone.SendNas text_nas_up))
  pub nas_down : StandsAt acts (send_nas_down steps) (event.Core (core.SendNas text_nas_down))
  pub idle : StandsAt acts (go_idle steps) (event.Phone phone.GoIdle)
  pub renews : StandsAt acts (authenticates steps) (event.Auth 0 new_kasme setup.caps)
  pub secures : StandsAt acts (begins_security steps) (event.Core core.StartSmc)
  pub anew : StandsAt acts (send_anew steps) (event.Phone (phone.SendUser Drb1 text_anew))
  pub of_stations : (id : ℕ) → id < 8 → OfStation setup steps acts id
