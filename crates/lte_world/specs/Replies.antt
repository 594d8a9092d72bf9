-- What an event asks of the actors, and what they reply: each input with its reply, the phone's before the core's.
use Rattle.std.specs.Prelude.{◌≡◌, ℕ, IsTrue, List, [], ◌∷◌, ◌++◌, Option, Some, None}
use Rattle.std.specs.List.{position_from}
use Rattle.alg_choice.specs.declared.caps.Caps.{Caps}
use Rattle.lte_events.specs.{Ranges.has_station, declared.addresses.Address.Address, declared.events.Event.Event, declared.inputs.ActorIn.ActorIn, declared.inputs.PhoneIn.PhoneIn, declared.inputs.StationIn.StationIn, declared.inputs.CoreIn.CoreIn, declared.replies.ActorOut.ActorOut, declared.setups.Setup.Setup, Class.class_of}
use Rattle.key_terms.specs.declared.proof.Proof.{Proof}
use Rattle.lte_machine.specs.{BothRuns.octet_run, CoreState.Core, Machines.Kept, PhoneState.Phone, Run.Running, StationState.Station}
use Rattle.lte_machine.specs.Calls.{phone_call, station_call, core_call}
use Rattle.lte_machine.specs.World.{World, station_of_id, known_root, record_at, is_sent}
use Rattle.lte_world.specs.Systems.{octets, Actors, Are, StepsAt}

-- the reply of a station, if it stands
abbrev pub station_replies : ℕ → StationIn → Option (Station (List ℕ) ℕ) → List (ActorIn × ActorOut)
station_replies id i None = []
station_replies id i (Some s) = (ActorIn.Station id i, (station_call s i).1) ∷ []

-- an input of one of these actors, and its reply
abbrev pub replies_by : Phone (List ℕ) ℕ → Core (List ℕ) ℕ → List (Station (List ℕ) ℕ) → ActorIn → List (ActorIn × ActorOut)
replies_by phone core stations (ActorIn.Phone i) = (ActorIn.Phone i, (phone_call phone i).1) ∷ []
replies_by phone core stations (ActorIn.Station id i) = station_replies id i (station_of_id id stations)
replies_by phone core stations (ActorIn.Core i) = (ActorIn.Core i, (core_call core i).1) ∷ []

-- of these stations the one at a place takes this input, and its reply is all that is told
pub record ToldAt (before after : List (Station (List ℕ) ℕ)) (place id : ℕ) (i : StationIn) (told : List (ActorIn × ActorOut)) : Type 0 where
  pub out : ActorOut
  pub steps : StepsAt before after place i out
  pub is : told ≡ (ActorIn.Station id i, out) ∷ []

-- octets that come to an address, as an input of the actor there
abbrev pub input_at : Address → List ℕ → ActorIn
input_at Address.PhoneNas pdu = ActorIn.Phone (PhoneIn.Nas pdu)
input_at (Address.Phone station air bearer) pdu = ActorIn.Phone (PhoneIn.Air station air bearer pdu)
input_at Address.CoreNas pdu = ActorIn.Core (CoreIn.Nas pdu)
input_at Address.CoreS1 pdu = ActorIn.Core (CoreIn.S1 pdu)
input_at (Address.StationAir station air bearer) pdu = ActorIn.Station station (StationIn.Air air bearer pdu)
input_at (Address.StationS1 station) pdu = ActorIn.Station station (StationIn.S1 pdu)
input_at (Address.StationX2 station) pdu = ActorIn.Station station (StationIn.X2 pdu)

-- AN EVENT

module _ (w : World (List ℕ) ℕ Kept) where
  abbrev pub replies_in : ActorIn → List (ActorIn × ActorOut)
  replies_in i = replies_by w.phone w.core w.stations i

  -- an authentication is one of the phone and one of the core, unless its KASME is known
  abbrev pub auth_replies : ℕ → List ℕ → Caps → Option ℕ → List (ActorIn × ActorOut)
  auth_replies ksi kasme caps None =
      (ActorIn.Phone (PhoneIn.Auth ksi kasme), (phone_call w.phone (PhoneIn.Auth ksi kasme)).1)
      ∷ (ActorIn.Core (CoreIn.Auth ksi kasme caps), (core_call w.core (CoreIn.Auth ksi kasme caps)).1) ∷ []
  auth_replies ksi kasme caps (Some row) = []

  abbrev pub delivered_replies : Option Kept → List (ActorIn × ActorOut)
  delivered_replies None = []
  delivered_replies (Some x) = replies_in (input_at x.to x.octets)

  abbrev pub injected_replies : Address → List ℕ → Option ℕ → List (ActorIn × ActorOut)
  injected_replies to pdu None = replies_in (input_at to pdu)
  injected_replies to pdu (Some number) = []

  unfoldable pub replies_of : Event → List (ActorIn × ActorOut)
  replies_of (Event.Auth ksi kasme caps) = auth_replies ksi kasme caps (known_root octets w kasme)
  replies_of (Event.Phone act) = replies_in (ActorIn.Phone (PhoneIn.Act act))
  replies_of (Event.Station id act) = replies_in (ActorIn.Station id (StationIn.Act act))
  replies_of (Event.Core act) = replies_in (ActorIn.Core (CoreIn.Act act))
  replies_of (Event.Deliver i) = delivered_replies (record_at i w.sent)
  replies_of (Event.Inject to pdu) = injected_replies to pdu (position_from (is_sent octets (class_of to) pdu) 0 w.sent)

-- these are the replies to an event in each world that has these actors
abbrev pub Tells : Actors → Event → List (ActorIn × ActorOut) → Type 0
Tells before e told = (w : World (List ℕ) ℕ Kept) → Are w before → told ≡ replies_of w e

-- A JOURNAL

-- the replies to the last event of a journal, if there is one
pub record RepliedLast (setup : Setup) (journal : List Event) (replies : List (ActorIn × ActorOut)) : Type 0 where
  pub last : (before : List Event) (e : Event) (w : World (List ℕ) ℕ Kept)
      → journal ≡ before ++ e ∷ []
      → octet_run setup before ≡ Running w
      → replies ≡ replies_of w e
  pub none : journal ≡ [] → replies ≡ []

-- where no coincidence ended the run
abbrev pub UnlessOver : Option Proof → Type 0 → Type 0
UnlessOver None P = P
UnlessOver (Some proof) P = Unit {0}

-- the actor of an input is one of the setup
abbrev pub IsOfSetup : Setup → ActorIn → Type 0
IsOfSetup setup (ActorIn.Station id i) = IsTrue (has_station setup.stations id)
IsOfSetup setup other = Unit {0}
