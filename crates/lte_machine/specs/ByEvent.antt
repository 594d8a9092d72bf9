-- A run event by event: the world before an event, the event, the world after it and its line.
use Rattle.std.specs.Prelude.{◌≡◌, ℕ, List, ◌∷◌, ◌++◌, take, slice_get, Some}
use Rattle.lte_events.specs.{declared.events.Event.Event, declared.setups.Setup.Setup}
use Rattle.key_model.specs.{Chain.ncc_of, Term.Term, Value.value_of}
use Rattle.lte_machine.specs.BothRuns.{annex_b_terms, written_run, octet_run}
use Rattle.lte_machine.specs.{Carried.map_world, Carried.map_line, Ciphers.annex_b, Run.Running, Run.replay, Tuples.Coincidence, Wire.Outgoing}
use Rattle.lte_machine.specs.Machines.{Kept, machine_in_octets, kept_in_values, written_machine}
use Rattle.lte_machine.specs.Opening.{Opening, Outcome, open_octets}
use Rattle.lte_machine.specs.Step.{Continues, Stops, next}
use Rattle.lte_machine.specs.World.{Machine, World, Line}

-- a run that is over: the events before its coincidence, after which it went on, and the event at which it came
pub record EndsAt {K C S : Type 0} (by_octets : Opening K → List ℕ → Outcome) (m : Machine K C S) (start : World K C S)
    (events : List Event) (coincidence : Coincidence K) : Type 0 where
  pub before : List Event
  pub event : Event
  pub rest : List Event
  pub world : World K C S
  pub parts : events ≡ before ++ event ∷ rest
  pub went_on : replay by_octets m (Running start) before ≡ Running world
  pub stops : next by_octets m world event ≡ Stops coincidence

-- the world in octets of a world over terms: keys by their octets, chain numbers by their NCCs, records by their octets
abbrev pub in_octets : World Term ℕ (Outgoing Term ℕ) → World (List ℕ) ℕ Kept
in_octets w = map_world value_of ncc_of (kept_in_values annex_b) w

-- the world is the value of one in which the run over terms goes on after these events
pub record IsValueOfRun (setup : Setup) (events : List Event) (u : World (List ℕ) ℕ Kept) : Type 0 where
  pub world : World Term ℕ (Outgoing Term ℕ)
  pub runs : written_run setup events ≡ Running world
  pub value : u ≡ in_octets world

-- step k of the written machine's run: after k events the run is in world w, and it goes on by event e to world u with this line
pub record IsStep (setup : Setup) (events : List Event) (k : ℕ) (w : World Term ℕ (Outgoing Term ℕ)) (e : Event)
    (u : World Term ℕ (Outgoing Term ℕ)) (line : Line Term) : Type 0 where
  pub event : slice_get events k ≡ Some e
  pub before : written_run setup (take k events) ≡ Running w
  pub goes_on : next (open_octets annex_b_terms) (written_machine annex_b) w e ≡ Continues u line

-- a step told this line
pub record Told (setup : Setup) (events : List Event) (k : ℕ) (line : Line Term) : Type 0 where
  pub world : World Term ℕ (Outgoing Term ℕ)
  pub event : Event
  pub after : World Term ℕ (Outgoing Term ℕ)
  pub step : IsStep setup events k world event after line

-- step k of the run in octets
pub record IsOctetStep (setup : Setup) (events : List Event) (k : ℕ) (v : World (List ℕ) ℕ Kept) (e : Event)
    (after : World (List ℕ) ℕ Kept) (line : Line (List ℕ)) : Type 0 where
  pub event : slice_get events k ≡ Some e
  pub before : octet_run setup (take k events) ≡ Running v
  pub goes_on : next (open_octets annex_b) (machine_in_octets annex_b) v e ≡ Continues after line

-- it is the value of step k over terms: both worlds and the line
pub record IsValueOfStep (setup : Setup) (events : List Event) (k : ℕ) (v : World (List ℕ) ℕ Kept) (e : Event)
    (after : World (List ℕ) ℕ Kept) (line : Line (List ℕ)) : Type 0 where
  pub world : World Term ℕ (Outgoing Term ℕ)
  pub later : World Term ℕ (Outgoing Term ℕ)
  pub told : Line Term
  pub step : IsStep setup events k world e later told
  pub before : v ≡ in_octets world
  pub afterwards : after ≡ in_octets later
  pub line_is : line ≡ map_line value_of told
