-- The actors and what is kept beside them, as those of a world; and what comes of an event.
use Rattle.std.specs.Prelude.{◌≡◌, ℕ, ◌≤◌, List, Option, Some, option_map, slice_get, slice_set, Result, Ok, Err}
use Rattle.std.specs.Str.{bytes_eq}
use Rattle.rec_base.specs.declared.uses.Use.{Use}
use Rattle.lte_events.specs.{declared.addresses.Address.Address, declared.events.Event.Event, declared.inputs.PhoneIn.PhoneIn, declared.inputs.StationIn.StationIn, declared.inputs.CoreIn.CoreIn, declared.lines.Line.Line, declared.replies.ActorOut.ActorOut}
use Rattle.key_terms.specs.declared.proof.Proof.{Proof}
use Rattle.lte_machine.specs.Calls.{use_out, line_out, phone_input, station_input, core_input, station_call}
use Rattle.lte_machine.specs.{Ciphers.annex_b, CoreState.Core, Opening.open_octets, PhoneState.Phone, StationState.Station}
use Rattle.lte_machine.specs.Machines.{Kept, machine_in_octets, tuple_of}
use Rattle.lte_machine.specs.Step.{StepResult, Continues, Stops, Attempted, phone_attempts, core_attempts, station_attempts, arrival_attempts, opening_coincidence, by_coincidence, next}
use Rattle.lte_machine.specs.World.{Machine, World, phone_turn, core_turn, station_turn, arrives, happens}
use Rattle.lte_machine.specs.World as world
use Rattle.s1x2_rec.specs.Reading.{read_core}
use Rattle.lte_events.specs.Ranges.{PhoneDoes, StationDoes, TakesInjected}
use Rattle.store_laws.specs.{Additions.CanKeep, Proofs.proof_of}
use Rattle.lte_world.specs.Networks.{Stores, Fits}

-- the machine in octets, with the algorithms of TS 33.401 Annex B
abbrev pub octets : Machine (List ℕ) ℕ Kept
octets = machine_in_octets annex_b

-- the actors, and what is kept beside them
pub record Actors : Type 0 where
  pub phone : Phone (List ℕ) ℕ
  pub core : Core (List ℕ) ℕ
  pub stations : List (Station (List ℕ) ℕ)
  pub stores : Stores

-- they are those of a world
pub record Are (w : World (List ℕ) ℕ Kept) (a : Actors) : Type 0 where
  pub phone : a.phone ≡ w.phone
  pub core : a.core ≡ w.core
  pub stations : a.stations ≡ w.stations
  pub stores : Fits w a.stores

-- room for what one event gives out
pub record HasRoom (s : Stores) : Type 0 where
  pub records : 1 ≤ s.record_room
  pub rows : 12 ≤ s.row_room
  pub uses : 2 ≤ s.use_room

-- an event came out so
abbrev pub CameOut : StepResult (List ℕ) ℕ Kept → Actors → Result Line Proof → Type 0
CameOut (Continues w line) actors result = (result ≡ Ok (line_out line)) × Are w actors
CameOut (Stops coincidence) actors result = result ≡ Err (proof_of coincidence)

-- what comes of a step of an actor, with what it opened
abbrev pub comes : World (List ℕ) ℕ Kept → Attempted (List ℕ) Kept → World (List ℕ) ℕ Kept × world.Line (List ℕ) → StepResult (List ℕ) ℕ Kept
comes w attempt turn = by_coincidence bytes_eq (opening_coincidence (open_octets annex_b) octets attempt) turn

-- TURNS, each for every world that has these actors, and for every record that came with this use of its sender

unfoldable pub PhoneTurns : Actors → Actors → PhoneIn → Option Use → ℕ → Result Line Proof → Type 0
PhoneTurns before after i sender step result =
    (w : World (List ℕ) ℕ Kept) (came : Option Kept)
    → Are w before → sender ≡ option_map use_out (tuple_of came) → w.events ≡ step
    → CanKeep (phone_turn octets w (phone_input i) came).0
    → CameOut (comes w (phone_attempts octets w (phone_input i) came) (phone_turn octets w (phone_input i) came)) after result

unfoldable pub CoreTurns : Actors → Actors → CoreIn → Option Use → ℕ → Result Line Proof → Type 0
CoreTurns before after i sender step result =
    (w : World (List ℕ) ℕ Kept) (came : Option Kept)
    → Are w before → sender ≡ option_map use_out (tuple_of came) → w.events ≡ step
    → CanKeep (core_turn octets w (core_input i) came).0
    → CameOut (comes w (core_attempts octets w (core_input i) came) (core_turn octets w (core_input i) came)) after result

unfoldable pub StationTurns : Actors → Actors → ℕ → StationIn → Option Use → ℕ → Result Line Proof → Type 0
StationTurns before after id i sender step result =
    (w : World (List ℕ) ℕ Kept) (came : Option Kept)
    → Are w before → sender ≡ option_map use_out (tuple_of came) → w.events ≡ step
    → CanKeep (station_turn octets w id (station_input i) came).0
    → CameOut (comes w (station_attempts octets w id (station_input i) came) (station_turn octets w id (station_input i) came)) after result

-- of these stations the one at a place takes this input
pub record StepsAt (before after : List (Station (List ℕ) ℕ)) (place : ℕ) (i : StationIn) (out : ActorOut) : Type 0 where
  pub old : Station (List ℕ) ℕ
  pub new : Station (List ℕ) ℕ
  pub stands : slice_get before place ≡ Some old
  pub called : (new, out) ≡ station_call old i
  pub put : after ≡ slice_set before place new

-- that there is such a world
pub record PhoneCan (a : Actors) (i : PhoneIn) : Type 0 where
  pub before : World (List ℕ) ℕ Kept
  pub came : Option Kept
  pub are : Are before a
  pub can : CanKeep (phone_turn octets before (phone_input i) came).0

pub record CoreCan (a : Actors) (i : CoreIn) : Type 0 where
  pub before : World (List ℕ) ℕ Kept
  pub came : Option Kept
  pub are : Are before a
  pub can : CanKeep (core_turn octets before (core_input i) came).0

pub record StationCan (a : Actors) (id : ℕ) (i : StationIn) : Type 0 where
  pub before : World (List ℕ) ℕ Kept
  pub came : Option Kept
  pub are : Are before a
  pub can : CanKeep (station_turn octets before id (station_input i) came).0

-- an event, for every world that has these actors
unfoldable pub Happens : Actors → Actors → Event → ℕ → Result Line Proof → Type 0
Happens before after e step result =
    (w : World (List ℕ) ℕ Kept) → Are w before → w.events ≡ step → CanKeep (happens octets w e).0
    → CameOut (next (open_octets annex_b) octets w e) after result

pub record EventCan (a : Actors) (e : Event) : Type 0 where
  pub before : World (List ℕ) ℕ Kept
  pub are : Are before a
  pub can : CanKeep (happens octets before e).0

-- what an event may ask of an actor, and where octets may be injected
abbrev pub MayHappen : Event → Type 0
MayHappen (Event.Auth ksi root caps) = ksi ≤ 6
MayHappen (Event.Phone act) = PhoneDoes act
MayHappen (Event.Station id act) = StationDoes act
MayHappen (Event.Core act) = Unit {0}
MayHappen (Event.Deliver i) = Unit {0}
MayHappen (Event.Inject to text) = TakesInjected to

-- ARRIVALS

-- a record on S1 or X2 reads as its octets do
abbrev pub ReadsAt : Address → List ℕ → Option Kept → Type 0
ReadsAt Address.CoreS1 pdu came = world.content_in octets came ≡ read_core pdu
ReadsAt (Address.StationS1 station) pdu came = world.content_in octets came ≡ read_core pdu
ReadsAt (Address.StationX2 station) pdu came = world.content_in octets came ≡ read_core pdu
ReadsAt other pdu came = Unit {0}

unfoldable pub Arrives : Actors → Actors → Address → List ℕ → Option Use → ℕ → Result Line Proof → Type 0
Arrives before after to pdu sender step result =
    (w : World (List ℕ) ℕ Kept) (came : Option Kept)
    → Are w before → sender ≡ option_map use_out (tuple_of came) → w.events ≡ step → ReadsAt to pdu came
    → CanKeep (arrives octets w to pdu came).0
    → CameOut (comes w (arrival_attempts octets w to pdu came) (arrives octets w to pdu came)) after result

pub record ArrivalCan (a : Actors) (to : Address) (pdu : List ℕ) : Type 0 where
  pub before : World (List ℕ) ℕ Kept
  pub came : Option Kept
  pub are : Are before a
  pub reads : ReadsAt to pdu came
  pub can : CanKeep (arrives octets before to pdu came).0

-- the actors and stores as they were, with the room that these have
abbrev pub with_room : Actors → Actors → Actors
with_room a b = record a { stores = record a.stores { record_room = b.stores.record_room; row_room = b.stores.row_room; use_room = b.stores.use_room } }
