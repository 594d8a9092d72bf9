-- Recovery in octets, in the run that the program makes.
use Rattle.std.specs.Prelude.{◌≡◌, ℕ, List, ◌++◌, Some, false}
use Rattle.annex_a_keys.specs.Cell.{Place}
use Rattle.key_model.specs.{Reading.octet_reading, Value.value_of}
use Rattle.lte_events.specs.{declared.events.Event.Event, declared.setups.Setup.Setup}
use Rattle.lte_machine.specs.{ByEvent.IsValueOfRun, Ciphers.annex_b, Machines.Kept, PhoneState.Link, PhoneState.Connected, Standing.RunsTo, StationState.Station, StationState.Context, World.World, World.station_of_id}
use Rattle.lte_properties.specs.Agreement.{Agree}
use Rattle.lte_recovery.specs.{InRuns.InTouch, InRuns.CanStartAnew, Reconnection.TheWorld, Reconnection.reconnect, Renewal.restart}

-- phone and station have these 32 octets as KeNB at one air address, and one choice of algorithms, and so all keys; the context is active
pub record ReconnectedInOctets (kenb : List ℕ) (id air : ℕ) (v : World (List ℕ) ℕ Kept) : Type 0 where
  pub link : Link (List ℕ) ℕ
  pub is_connected : v.phone.radio ≡ Connected link
  pub at_station : link.station ≡ id
  pub at_air : link.air ≡ air
  pub phone_kenb : link.kenb ≡ kenb
  pub station : Station (List ℕ) ℕ
  pub there : station_of_id id v.stations ≡ Some station
  pub context : Context (List ℕ) ℕ
  pub has : station.context ≡ Some context
  pub same_air : context.air ≡ air
  pub station_kenb : context.key.kenb ≡ kenb
  pub agree : Agree link context
  pub active : context.starting ≡ false

-- after the seven events: the KeNB that A.3 gives of the KASME and of the COUNT of the Service Request
abbrev pub ReconnectsInOctets : Setup → List Event → Type 0
ReconnectsInOctets setup events =
    (w : TheWorld) (v : World (List ℕ) ℕ Kept) (cell : Place) → RunsTo annex_b setup events w
    → IsValueOfRun setup (events ++ reconnect cell) v
    → (can : InTouch setup w cell)
    → ReconnectedInOctets (octet_reading.kenb (value_of can.phone.root) can.phone.send) can.station.id can.station.next v

-- after the eleven: that of the new KASME's octets and of COUNT 1
abbrev pub RestartsInOctets : Setup → List Event → Type 0
RestartsInOctets setup events =
    (w : TheWorld) (v : World (List ℕ) ℕ Kept) (cell : Place) (ksi : ℕ) (octets : List ℕ) → RunsTo annex_b setup events w
    → IsValueOfRun setup (events ++ restart w cell ksi octets) v
    → (can : CanStartAnew setup w cell ksi octets)
    → ReconnectedInOctets (octet_reading.kenb octets 1) can.station.id can.station.next v
