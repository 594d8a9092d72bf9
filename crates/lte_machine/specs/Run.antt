-- A run: one event after the other, to the first coincidence.
use Rattle.std.specs.Prelude.{ℕ, List, [], ◌∷◌}
use Rattle.lte_events.specs.{declared.events.Event.Event, declared.setups.Setup.Setup, declared.setups.StationSetup.StationSetup, Site.Site}
use Rattle.lte_machine.specs.{Opening.Opening, Opening.Outcome, PhoneState.first_phone, StationState.Station, StationState.first_station, CoreState.first_core, Tuples.Coincidence}
use Rattle.lte_machine.specs.World.{Machine, World, Line, happens}
use Rattle.lte_machine.specs.Step.{StepResult, Continues, Stops, next}

-- a run goes on in a world, or is over for good
pub data RunState (K C S : Type 0) : Type 0 where
  Running : World K C S → RunState K C S
  Stopped : Coincidence K → RunState K C S

-- a run that goes on
abbrev pub GoesOn : {K C S : Type 0} → RunState K C S → Type 0
GoesOn (Running w) = Unit {0}
GoesOn (Stopped coincidence) = ⊥

abbrev pub after : {K C S : Type 0} → StepResult K C S → RunState K C S
after (Continues w line) = Running w
after (Stops coincidence) = Stopped coincidence

abbrev pub turn : {K C S : Type 0} → (Opening K → List ℕ → Outcome) → Machine K C S → RunState K C S → Event → RunState K C S
turn by_octets m (Stopped coincidence) e = Stopped coincidence
turn by_octets m (Running w) e = after (next by_octets m w e)

-- one event after the other
abbrev pub replay : {K C S : Type 0} → (Opening K → List ℕ → Outcome) → Machine K C S → RunState K C S → List Event → RunState K C S
replay by_octets m r [] = r
replay by_octets m r (e ∷ es) = replay by_octets m (turn by_octets m r e) es

-- the world after these events; unlike in `replay`, a coincidence does not end it
abbrev pub run : {K C S : Type 0} → Machine K C S → World K C S → List Event → World K C S
run m w [] = w
run m w (e ∷ es) = run m (happens m w e).0 es

-- what is told of an event: its line, or the coincidence
pub data EventReport (K : Type 0) : Type 0 where
  Reported : Line K → EventReport K
  Coincided : Coincidence K → EventReport K

abbrev pub reported : {K C S : Type 0} → StepResult K C S → EventReport K
reported (Continues w line) = Reported line
reported (Stops coincidence) = Coincided coincidence

abbrev pub event_report : {K C S : Type 0} → (Opening K → List ℕ → Outcome) → Machine K C S → RunState K C S → Event → EventReport K
event_report by_octets m (Stopped coincidence) e = Coincided coincidence
event_report by_octets m (Running w) e = reported (next by_octets m w e)

-- what is told of each event in turn
abbrev pub report : {K C S : Type 0} → (Opening K → List ℕ → Outcome) → Machine K C S → RunState K C S → List Event → List (EventReport K)
report by_octets m r [] = []
report by_octets m r (e ∷ es) = event_report by_octets m r e ∷ report by_octets m (turn by_octets m r e) es

-- the stations of a setup, none of which has served anybody
abbrev pub stations_of : {K C : Type 0} → List Site → List StationSetup → List (Station K C)
stations_of sites [] = []
stations_of sites (s ∷ ss) = first_station s.id sites s.priority s.first ∷ stations_of sites ss

-- the world before the first event
abbrev pub first_world : {K C S : Type 0} → Setup → World K C S
first_world setup = record {
  events = 0;
  phone = first_phone setup.caps;
  core = first_core setup.cells setup.core_priority setup.core_first setup.core_first_ncc;
  stations = stations_of setup.cells setup.stations;
  sent = [];
  uses = [];
  history = [];
  held = [];
  made = [];
  tried = [];
  took = [];
}
