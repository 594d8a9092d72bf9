-- The whole world as a caller sees it: what it started with, the events that it took, the coincidence that ended it, and whether
-- there is room for one event more. The run in octets says all else.
use Rattle.std.specs.Prelude.{◌≡◌, ℕ, ◌+◌, ◌*◌, ◌<◌, ◌≤◌, Bool, false, IsTrue, List, [], ◌∷◌, ◌++◌, length, Option, Some, None, Result, Ok, Err}
use Rattle.std.specs.Option.{option_map}
use Rattle.lte_events.specs.{Scenario.most_events, Scenario.CanHappen, declared.events.Event.Event, declared.lines.Line.Line, declared.lines.Who.Who, declared.setups.Setup.Setup}
use Rattle.key_terms.specs.declared.proof.Proof.{Proof}
use Rattle.lte_machine.specs.{BothRuns.octet_run, Calls.line_out, Ciphers.annex_b, Machines.Kept, Opening.open_octets, PhoneState.Radio, StationState.Station, World.World, World.station_of_id}
use Rattle.lte_machine.specs.Run.{RunState, Running, Stopped, turn, EventReport, Reported, Coincided, event_report}
use Rattle.ue_context.specs.Step.{air_of, kenb_of}
use Rattle.enb_context.specs.Drawn.{last_drawn}
use Rattle.store_laws.specs.{Proofs.proof_of, Proofs.coincidence_of, Rows.world_rows}
use Rattle.lte_world.specs.declared.faults.WorldFault.{WorldFault}
use Rattle.lte_world.specs.Systems.{octets, Actors, Are}

pub record Whole : Type 0 where
  pub setup : Setup
  pub journal : List Event
  -- the coincidence that ended it, if one did; its event is not in the journal
  pub over : Option Proof
  pub ready : Bool

-- THE RUN

abbrev pub unless_over : Option Proof → RunState (List ℕ) ℕ Kept → RunState (List ℕ) ℕ Kept
unless_over None run = run
unless_over (Some proof) run = Stopped (coincidence_of proof)

-- the run in octets of the setup and the journal, or the coincidence that ended it
abbrev pub run_of : Whole → RunState (List ℕ) ℕ Kept
run_of v = unless_over v.over (octet_run v.setup v.journal)

-- what is told of one event more, a line or the coincidence
abbrev pub answer_of : EventReport (List ℕ) → Result Line WorldFault
answer_of (Reported line) = Ok (line_out line)
answer_of (Coincided coincidence) = Err (WorldFault.Chance (proof_of coincidence))

abbrev pub told_of : Whole → Event → Result Line WorldFault
told_of v e = answer_of (event_report (open_octets annex_b) octets (run_of v) e)

-- the run with one event more
abbrev pub turned : Whole → Event → RunState (List ℕ) ℕ Kept
turned v e = turn (open_octets annex_b) octets (run_of v) e

-- an event that was told with a line is in the journal
abbrev pub journal_after : Result Line WorldFault → List Event → Event → List Event
journal_after (Ok line) journal e = journal ++ e ∷ []
journal_after (Err fault) journal e = journal

-- WHAT A CALLER GIVES

-- what a caller sees of it when it begins with a setup
abbrev pub begun : Setup → Whole
begun setup = record { setup = setup; journal = []; over = None; ready = false }

-- an event that can happen to it
pub record CanApply (v : Whole) (e : Event) : Type 0 where
  pub can : CanHappen v.setup e
  pub few : length v.journal < most_events
  pub ready : IsTrue v.ready

-- WHAT HOLDS

-- of a world that the run goes on in
abbrev pub InRun : (World (List ℕ) ℕ Kept → Type 0) → RunState (List ℕ) ℕ Kept → Type 0
InRun P (Running w) = P w
InRun P (Stopped coincidence) = Unit {0}

-- the actors are those of the run, and the number of events is that of the journal, where no coincidence ended it
abbrev pub Goes : RunState (List ℕ) ℕ Kept → Actors → ℕ → Type 0
Goes (Running w) actors steps = Are w actors × (w.events ≡ steps)
Goes (Stopped coincidence) actors steps = ⊥

abbrev pub Stands : Option Proof → RunState (List ℕ) ℕ Kept → Actors → ℕ → Type 0
Stands None run actors steps = Goes run actors steps
Stands (Some proof) run actors steps = Unit {0}

-- so many events send no more records, and derive no more than 12 times so many keys
abbrev pub AreFew : ℕ → World (List ℕ) ℕ Kept → Type 0
AreFew events w = (length w.sent ≤ events) × (length (world_rows w) ≤ 12 * events)

-- of how many events something may be kept: that at which a coincidence ended the world is not in the journal
abbrev pub events_kept : Option Proof → ℕ → ℕ
events_kept None events = events
events_kept (Some proof) events = events + 1

-- GETTERS

abbrev pub context_kenb : Option (Station (List ℕ) ℕ) → Option (List ℕ)
context_kenb None = None
context_kenb (Some s) = option_map (λ c. c.key.kenb) s.context

-- the KeNB of the phone's connection, and that of a station's context
abbrev pub phone_kenb_in : World (List ℕ) ℕ Kept → Option (List ℕ)
phone_kenb_in w = kenb_of w.phone.radio

abbrev pub station_kenb_in : ℕ → World (List ℕ) ℕ Kept → Option (List ℕ)
station_kenb_in id w = context_kenb (station_of_id id w.stations)

-- the station at which the core has the phone
abbrev pub core_station_in : World (List ℕ) ℕ Kept → Option ℕ
core_station_in w = option_map (λ l. l.station) w.core.link

-- For which air address a key of who acted is: where the phone is connected, and what a station drew last. A station that makes a key draws
-- the air address for it in that very step
abbrev pub station_air : {K C : Type 0} → Option (Station K C) → Option (ℕ × ℕ)
station_air None = None
station_air (Some s) = last_drawn s.id s.next

abbrev pub actor_air : {K C : Type 0} → Radio K C → List (Station K C) → Who → Option (ℕ × ℕ)
actor_air radio stations Who.Phone = air_of radio
actor_air radio stations (Who.Station id) = station_air (station_of_id id stations)
actor_air radio stations other = None

abbrev pub address_of : {K C S : Type 0} → World K C S → Who → Option (ℕ × ℕ)
address_of w who = actor_air w.phone.radio w.stations who
