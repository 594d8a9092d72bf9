-- Recovery in a run from a setup: fewer premises are enough, since the rest holds in every run.
use Rattle.std.specs.Prelude.{◌≡◌, ℕ, ◌+◌, ◌<◌, ◌≤◌, List, ◌++◌, Some, None, Ok}
use Rattle.alg_choice.specs.{Choice.choice_of, declared.algs.Algs.Algs}
use Rattle.annex_a_keys.specs.Cell.{Place}
use Rattle.key_model.specs.Term.{Term, Root}
use Rattle.lte_events.specs.{Site.station_of, declared.events.Event.Event, declared.setups.Setup.Setup}
use Rattle.nas_count.specs.Estimate.{nas_count_limit}
use Rattle.lte_machine.specs.{Ciphers.annex_b, CoreState.CoreContext, Machines.written_machine, PhoneState.NasContext, Standing.RunsTo, StationState.Station}
use Rattle.lte_machine.specs.World.{station_of_id, known_root, next_root}
use Rattle.lte_properties.specs.Packets.{on_nas}
use Rattle.lte_recovery.specs.Reconnection.{TheWorld, reconnect, Reconnected}
use Rattle.lte_recovery.specs.Renewal.{restart}

-- what a reconnection needs
pub record InTouch (setup : Setup) (w : TheWorld) (cell : Place) : Type 0 where
  -- phone and core use NAS contexts of one KASME
  pub phone : NasContext Term
  pub core : CoreContext Term
  pub at_phone : w.phone.context ≡ Some phone
  pub at_core : w.core.context ≡ Some core
  pub root : core.nas.root ≡ phone.root
  -- the phone's next uplink COUNT is left, and not past the core's window; it is never below that
  pub window : phone.send < core.nas.receive + on_nas
  pub left : phone.send < nas_count_limit
  -- the cell is one of the setup; this is its station now
  pub station : Station Term ℕ
  pub serves : station_of cell setup.cells ≡ Some station.id
  pub there : station_of_id station.id w.stations ≡ Some station
  -- core and station have a number left
  pub numbers : w.core.next < 4294967296
  pub draws : station.next < 4294967296
  -- station and phone have an algorithm in common
  pub algs : Algs
  pub chosen : choice_of station.priority core.caps ≡ Ok algs

abbrev pub RecoversIn : (setup : Setup) (w : TheWorld) (cell : Place) → InTouch setup w cell → TheWorld → Type 0
RecoversIn setup w cell h u = Reconnected h.phone.root h.phone.send h.station.id w.core.next h.station.next h.algs u

-- and where a new authentication comes first
pub record CanStartAnew (setup : Setup) (w : TheWorld) (cell : Place) (ksi : ℕ) (octets : List ℕ) : Type 0 where
  -- the KASME is new
  pub fresh : known_root (written_machine annex_b) w ((written_machine annex_b).root (next_root w) octets) ≡ None
  pub key_set : ksi ≤ 6
  -- core and phone have an algorithm in common
  pub nas_algs : Algs
  pub nas_chosen : choice_of w.core.priority w.phone.caps ≡ Ok nas_algs
  -- the cell is one of the setup; this is its station now
  pub station : Station Term ℕ
  pub serves : station_of cell setup.cells ≡ Some station.id
  pub there : station_of_id station.id w.stations ≡ Some station
  -- the core has two numbers left, and the station one
  pub numbers : w.core.next + 1 < 4294967296
  pub draws : station.next < 4294967296
  -- station and phone have an algorithm in common
  pub algs : Algs
  pub chosen : choice_of station.priority w.phone.caps ≡ Ok algs

abbrev pub RecoversAnewIn : (setup : Setup) (w : TheWorld) (cell : Place) (ksi : ℕ) (octets : List ℕ) → CanStartAnew setup w cell ksi octets → TheWorld → Type 0
RecoversAnewIn setup w cell ksi octets h u =
    (conn : ℕ) × Reconnected (Root (next_root w) octets) 1 h.station.id conn h.station.next h.algs u

-- after the events of a run: seven events more
abbrev pub Reconnects : Setup → List Event → Type 0
Reconnects setup events =
    (w u : TheWorld) (cell : Place) → RunsTo annex_b setup events w → RunsTo annex_b setup (events ++ reconnect cell) u
    → (can : InTouch setup w cell) → RecoversIn setup w cell can u

-- and eleven
abbrev pub Restarts : Setup → List Event → Type 0
Restarts setup events =
    (w u : TheWorld) (cell : Place) (ksi : ℕ) (octets : List ℕ) → RunsTo annex_b setup events w
    → RunsTo annex_b setup (events ++ restart w cell ksi octets) u
    → (can : CanStartAnew setup w cell ksi octets) → RecoversAnewIn setup w cell ksi octets can u
