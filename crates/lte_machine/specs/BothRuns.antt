-- From a setup and a list of events: the run of the written machine, and the run in octets, under the algorithms of TS
-- 33.401 Annex B.
use Rattle.std.specs.Prelude.{ℕ, List}
use Rattle.lte_events.specs.{declared.events.Event.Event, declared.setups.Setup.Setup}
use Rattle.key_model.specs.{Term.Term, Value.value_of}
use Rattle.lte_machine.specs.Ciphers.{Ciphers, annex_b, under_keys}
use Rattle.lte_machine.specs.Machines.{Kept, machine_in_octets, written_machine}
use Rattle.lte_machine.specs.{Opening.open_octets, Wire.Outgoing}
use Rattle.lte_machine.specs.Run.{RunState, Running, replay, EventReport, report, first_world}

-- the algorithms under the octets of a key term
abbrev pub annex_b_terms : Ciphers Term
annex_b_terms = under_keys value_of annex_b

-- keys are terms, and chain numbers have no bound
abbrev pub written_run : Setup → List Event → RunState Term ℕ (Outgoing Term ℕ)
written_run setup events = replay (open_octets annex_b_terms) (written_machine annex_b) (Running (first_world setup)) events

abbrev pub written_report : Setup → List Event → List (EventReport Term)
written_report setup events = report (open_octets annex_b_terms) (written_machine annex_b) (Running (first_world setup)) events

-- keys are their octets, and chain numbers NCCs
abbrev pub octet_run : Setup → List Event → RunState (List ℕ) ℕ Kept
octet_run setup events = replay (open_octets annex_b) (machine_in_octets annex_b) (Running (first_world setup)) events

abbrev pub octet_report : Setup → List Event → List (EventReport (List ℕ))
octet_report setup events = report (open_octets annex_b) (machine_in_octets annex_b) (Running (first_world setup)) events
