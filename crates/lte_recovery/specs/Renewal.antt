-- A new authentication and Security Mode before the reconnection: where phone and core use no NAS context together, or where no COUNT of it
-- is left (TS 24.301 5.4.3, TS 33.401 6.1.1 and 7.2.4.4).
use Rattle.std.specs.Prelude.{◌≡◌, ℕ, ◌+◌, ◌<◌, ◌≤◌, List, [], ◌∷◌, ◌++◌, Some, None, true, Ok}
use Rattle.alg_choice.specs.{Choice.choice_of, Choice.are_supported, declared.algs.Algs.Algs, declared.caps.Caps.Caps}
use Rattle.annex_a_keys.specs.Cell.{Place}
use Rattle.key_model.specs.Term.{Term}
use Rattle.lte_events.specs.{Site.station_of, declared.acts.CoreAct.CoreAct, declared.events.Event.Event}
use Rattle.lte_machine.specs.{StationState.Station, Wire.Outgoing}
use Rattle.lte_machine.specs.World.{Machine, station_of_id, known_root, next_root}
use Rattle.lte_recovery.specs.Reconnection.{TheWorld, newest, reconnect, Reconnected}

-- phone and core authenticate, and the core's Security Mode Command and the phone's answer arrive as they are sent
abbrev pub renew : ℕ → List ℕ → Caps → List Event
renew ksi octets caps = Event.Auth ksi octets caps ∷ Event.Core CoreAct.StartSmc ∷ newest ∷ newest ∷ []

-- ELEVEN EVENTS: the core learns the phone's own capabilities
abbrev pub restart : TheWorld → Place → ℕ → List ℕ → List Event
restart w cell ksi octets = renew ksi octets w.phone.caps ++ reconnect cell

-- what that needs
pub record CanRestart (m : Machine Term ℕ (Outgoing Term ℕ)) (w : TheWorld) (cell : Place) (ksi : ℕ) (octets : List ℕ) : Type 0 where
  -- the KASME is new
  pub fresh : known_root m w (m.root (next_root w) octets) ≡ None
  pub key_set : ksi ≤ 6
  -- core and phone have an algorithm in common
  pub nas_algs : Algs
  pub nas_chosen : choice_of w.core.priority w.phone.caps ≡ Ok nas_algs
  pub nas_supported : are_supported w.phone.caps nas_algs ≡ true
  -- the cell's station is there and knows the cell as its own
  pub station : Station Term ℕ
  pub there : station_of_id station.id w.stations ≡ Some station
  pub serves : station_of cell w.core.cells ≡ Some station.id
  pub own : station_of cell station.cells ≡ Some station.id
  pub few : station.id ≤ 7
  -- the core has two numbers left, above all that the station saw, and the station one
  pub numbers : w.core.next + 1 < 4294967296
  pub newer : station.last < w.core.next
  pub draws : station.next < 4294967296
  pub from_one : 1 ≤ station.next
  -- station and phone have an algorithm in common
  pub algs : Algs
  pub chosen : choice_of station.priority w.phone.caps ≡ Ok algs
  pub supported : are_supported w.phone.caps algs ≡ true

-- RECOVERY by eleven events, from any world: phone and station have KeNB of the new KASME and of COUNT 1
abbrev pub RecoversAnew : (m : Machine Term ℕ (Outgoing Term ℕ)) (w : TheWorld) (cell : Place) (ksi : ℕ) (octets : List ℕ)
    → CanRestart m w cell ksi octets → TheWorld → Type 0
RecoversAnew m w cell ksi octets h u =
    (conn : ℕ) × Reconnected (m.root (next_root w) octets) 1 h.station.id conn h.station.next h.algs u
