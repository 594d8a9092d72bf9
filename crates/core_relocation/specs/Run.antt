-- A run with two cores: an event goes to the one system of `run`, or asks a core that does not hold the context, and then the
-- system does not see it.
use Rattle.std.specs.Prelude.{ℕ, ◌+◌, List, [], ◌∷◌, ◌++◌, Option, Some, None, Result, Ok, Err}
use Rattle.lte_events.specs.{declared.events.Event.Event, declared.lines.Line.Line, declared.setups.Setup.Setup}
use Rattle.lte_machine.specs.{BothRuns.annex_b_terms, BothRuns.written_run, Carried.run_value, Carried.report_value, Ciphers.annex_b, Machines.Kept, Machines.written_machine, Opening.open_octets}
use Rattle.lte_machine.specs.Run.{RunState, Running, Stopped, event_report}
use Rattle.lte_world.specs.{declared.faults.WorldFault.WorldFault, Whole.answer_of}
use Rattle.s1x2_rec.specs.Fields.{Fields}
use Rattle.core_relocation.specs.{declared.cores.Cores.Cores, declared.cores.Held.Held, declared.lines.TwoLine.TwoLine, declared.senders.Sender.Sender, Acted.acted}
use Rattle.core_relocation.specs.declared.lines.TwoLine.TheVariants.{By, NotHere}
use Rattle.core_relocation.specs.Holder.{acting, away, fields_in, held_after, senders_after, station_in}

-- what two cores have come to
pub record TwoState : Type 0 where
  -- how many events there were
  pub steps : ℕ
  -- those that the system saw
  pub heard : List Event
  -- where the context is
  pub held : Held
  -- who sent each record
  pub senders : List Sender

-- nothing happened, and core 0 holds the context
abbrev pub first_state : TwoState
first_state = record { steps = 0; heard = []; held = record { holder = 0; next = None }; senders = [] }

-- ONE EVENT

-- what is answered, by the core that is asked though it does not hold the context, by the core that acts, by the number of the
-- event and by what the system answers
abbrev pub answer_by : Option ℕ → ℕ → ℕ → Result Line WorldFault → Result TwoLine WorldFault
answer_by (Some core) acts step told = Ok (NotHere core)
answer_by None acts step (Ok line) = Ok (By (record line { step = step }) (acted line.who acts))
answer_by None acts step (Err fault) = Err fault

-- the record on S1 that an event delivers to a core of a system that goes on
abbrev pub fields_of_run : RunState (List ℕ) ℕ Kept → Event → Option Fields
fields_of_run (Running w) e = fields_in w e
fields_of_run (Stopped coincidence) e = None

-- what it comes to where the system saw the event
abbrev pub state_told : Cores → TwoState → Event → Option Fields → Result Line WorldFault → TwoState
state_told c s e fields (Ok line) = record {
  steps = s.steps + 1;
  heard = s.heard ++ e ∷ [];
  held = held_after c (acting c (station_in s.senders e)) e fields line;
  senders = senders_after s.senders line;
}
state_told c s e fields (Err fault) = record s { steps = s.steps + 1; heard = s.heard ++ e ∷ [] }

abbrev pub state_by : Option ℕ → Cores → TwoState → Event → Option Fields → Result Line WorldFault → TwoState
state_by (Some core) c s e fields told = record s { steps = s.steps + 1 }
state_by None c s e fields told = state_told c s e fields told

-- both, with these cores and this system
module _ (c : Cores) (s : TwoState) (run : RunState (List ℕ) ℕ Kept) (told : Result Line WorldFault) (e : Event) where
  abbrev pub answer_in : Result TwoLine WorldFault
  answer_in = answer_by (away c (station_in s.senders e) e) (acting c (station_in s.senders e)) s.steps told

  abbrev pub state_in : TwoState
  state_in = state_by (away c (station_in s.senders e) e) c s e (fields_of_run run e) told

-- A LIST OF EVENTS

-- of this setup, with the core of each station
module _ (setup : Setup) (core_of : List ℕ) where
  -- the system of the written machine over key terms that saw these events, and what it tells of one more, in values
  abbrev pub run_after : List Event → RunState (List ℕ) ℕ Kept
  run_after heard = run_value annex_b (written_run setup heard)

  abbrev pub told_after : List Event → Event → Result Line WorldFault
  told_after heard e =
      answer_of (report_value (event_report (open_octets annex_b_terms) (written_machine annex_b) (written_run setup heard) e))

  abbrev pub cores_of : TwoState → Cores
  cores_of s = record { core_of = core_of; cells = setup.cells; held = s.held }

  abbrev pub next_answer : TwoState → Event → Result TwoLine WorldFault
  next_answer s e = answer_in (cores_of s) s (run_after s.heard) (told_after s.heard e) e

  abbrev pub next_state : TwoState → Event → TwoState
  next_state s e = state_in (cores_of s) s (run_after s.heard) (told_after s.heard e) e

  -- one event after the other
  abbrev pub states : TwoState → List Event → TwoState
  states s [] = s
  states s (e ∷ es) = states (next_state s e) es

  abbrev pub answers : TwoState → List Event → List (Result TwoLine WorldFault)
  answers s [] = []
  answers s (e ∷ es) = next_answer s e ∷ answers (next_state s e) es

  -- what all of them come to
  unfoldable pub two_state : List Event → TwoState
  two_state events = states first_state events

  -- the events that are not answered NotHere
  abbrev pub heard_of : List Event → List Event
  heard_of events = (two_state events).heard
