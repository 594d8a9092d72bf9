-- A reconnection: a fixed list of events after which phone and station have one key, whatever was lost, late or repeated before
-- (TS 24.301 5.6.1, TS 33.401 7.2.6.2 and 7.2.8.1.1).
use Rattle.std.specs.Prelude.{◌≡◌, ℕ, ◌<◌, ◌≤◌, List, [], ◌∷◌, Some, None, true, false, Ok, negsuc}
use Rattle.alg_choice.specs.{Choice.choice_of, Choice.are_supported, declared.algs.Algs.Algs}
use Rattle.annex_a_keys.specs.Cell.{Place}
use Rattle.key_model.specs.Term.{Term, Kenb}
use Rattle.lte_events.specs.{Site.station_of, declared.acts.CoreAct.CoreAct, declared.acts.PhoneAct.PhoneAct, declared.events.Event.Event}
use Rattle.nas_count.specs.Estimate.{nas_count_limit}
use Rattle.lte_machine.specs.{CoreState.CoreContext, CoreState.CoreLink, StationState.Station, StationState.Context, Wire.Outgoing, World.World, World.station_of_id}
use Rattle.lte_machine.specs.PhoneState.{NasContext, Link, Connected}
use Rattle.lte_properties.specs.{Agreement.Agree, Packets.InWindow, Packets.on_nas}

abbrev pub TheWorld : Type 0
TheWorld = World Term ℕ (Outgoing Term ℕ)

-- the record just sent arrives
abbrev pub newest : Event
newest = Event.Deliver (negsuc 0)

-- SEVEN EVENTS: the phone goes idle and asks for a connection, and the core sets one up in a cell; each record arrives as it is sent
abbrev pub reconnect : Place → List Event
reconnect cell =
    Event.Phone PhoneAct.GoIdle ∷ Event.Phone PhoneAct.ServiceRequest ∷ newest
    ∷ Event.Core (CoreAct.Connect cell) ∷ newest ∷ newest ∷ newest ∷ []

-- what a reconnection in a cell needs
pub record CanReconnect (w : TheWorld) (cell : Place) : Type 0 where
  -- phone and core use one NAS context
  pub phone : NasContext Term
  pub core : CoreContext Term
  pub at_phone : w.phone.context ≡ Some phone
  pub at_core : w.core.context ≡ Some core
  pub root : core.nas.root ≡ phone.root
  pub keys : core.nas.keys ≡ phone.keys
  -- the phone's next uplink COUNT is left, and in the core's window
  pub window : InWindow core.nas.receive phone.send on_nas
  pub left : phone.send < nas_count_limit
  -- the cell's station is there and knows the cell as its own
  pub station : Station Term ℕ
  pub there : station_of_id station.id w.stations ≡ Some station
  pub serves : station_of cell w.core.cells ≡ Some station.id
  pub own : station_of cell station.cells ≡ Some station.id
  pub few : station.id ≤ 7
  -- core and station have a number left, and the core's is above all that the station saw
  pub numbers : w.core.next < 4294967296
  pub newer : station.last < w.core.next
  pub draws : station.next < 4294967296
  pub from_one : 1 ≤ station.next
  -- station and phone have an algorithm in common
  pub algs : Algs
  pub chosen : choice_of station.priority core.caps ≡ Ok algs
  pub supported : are_supported w.phone.caps algs ≡ true

-- what it leads to: phone and station have KeNB of the KASME and of the COUNT of the Service Request, number 0, one choice of
-- algorithms, and so all keys; both are active; the core's connection is there
pub record Reconnected (root : Term) (count id conn air : ℕ) (algs : Algs) (u : TheWorld) : Type 0 where
  pub link : Link Term ℕ
  pub is_connected : u.phone.radio ≡ Connected link
  pub at_station : link.station ≡ id
  pub at_air : link.air ≡ air
  pub kenb : link.kenb ≡ Kenb root count
  pub station : Station Term ℕ
  pub there : station_of_id id u.stations ≡ Some station
  pub context : Context Term ℕ
  pub has : station.context ≡ Some context
  pub same_air : context.air ≡ air
  pub same_conn : context.conn ≡ conn
  pub active : context.starting ≡ false
  pub no_attempt : context.attempt ≡ None
  -- one key, chain number and choice of algorithms
  pub agree : Agree link context
  pub number : link.chain.number ≡ 0
  pub algorithms : context.algs ≡ algs
  -- the core's connection
  pub core_link : CoreLink Term ℕ
  pub at_core : u.core.link ≡ Some core_link
  pub core_conn : core_link.conn ≡ conn
  pub core_station : core_link.station ≡ id

-- RECOVERY by seven events, from any world
abbrev pub Recovers : (w : TheWorld) (cell : Place) → CanReconnect w cell → TheWorld → Type 0
Recovers w cell h u = Reconnected h.phone.root h.phone.send h.station.id w.core.next h.station.next h.algs u
