-- What is done to drive a scenario: the peers are started and set up; then for each event, to the first coincidence, its line is
-- written and the actors' peers are told its inputs; and behind the last event the end of the report is written.
use Rattle.std.specs.Prelude.{ℕ, suc, List, [], ◌∷◌, ◌++◌}
use Rattle.lte_events.specs.{declared.events.Event.Event, declared.inputs.ActorIn.ActorIn, declared.replies.ActorOut.ActorOut, declared.setups.Setup.Setup}
use Rattle.lte_machine.specs.{Calls.line_out, Ciphers.annex_b, Machines.Kept, Machines.machine_in_octets, Opening.open_octets}
use Rattle.lte_machine.specs.Run.{RunState, Running, Stopped, EventReport, Reported, Coincided, turn, first_world}
use Rattle.lte_world.specs.Replies.{replies_of}
use Rattle.report_text.specs.{Coincidence.coincidence_text, Line.line_text}
use Rattle.run_report.specs.{declared.endings.Ending.Ending, Events.told_of, Report.end_of}
use Rattle.run_report.specs.declared.endings.Ending.TheVariants.{Done, Chance}
use Rattle.store_laws.specs.Proofs.{proof_of}
use Rattle.hub_drive.specs.{Acts.Writing, Driven.Plan, Driven.then_plan}
use Rattle.hub_drive.specs.Exchanges.{roles_of, starts, seeds_of, set_ups, replied}

-- the run with one event more
abbrev pub turned : RunState (List ℕ) ℕ Kept → Event → RunState (List ℕ) ℕ Kept
turned run e = turn (open_octets annex_b) (machine_in_octets annex_b) run e

-- the inputs of an event with the local actors' replies
abbrev pub replies_at : RunState (List ℕ) ℕ Kept → Event → List (ActorIn × ActorOut)
replies_at (Running w) e = replies_of w e
replies_at (Stopped coincidence) e = []

-- what is done for one event: its line before its replies; a coincidence is written and no peer is told
abbrev pub event_plan : Setup → ℕ → EventReport (List ℕ) → List (ActorIn × ActorOut) → Plan
event_plan setup step (Reported line) replies = record { acts = Writing (line_text (line_out line)) ∷ replied setup step replies; ends = Done }
event_plan setup step (Coincided coincidence) replies = record { acts = Writing (coincidence_text step (proof_of coincidence)) ∷ []; ends = Chance }

-- a plan, and another where no coincidence ends it
abbrev pub unless_ended : Ending → Plan → Plan → Plan
unless_ended Done first rest = then_plan first.acts rest
unless_ended Chance first rest = first

abbrev pub followed : Plan → Plan → Plan
followed first rest = unless_ended first.ends first rest

-- from an event on, so many being before it
abbrev pub events_plan : Setup → ℕ → RunState (List ℕ) ℕ Kept → List Event → Plan
events_plan setup step run [] = record { acts = Writing (end_of step run) ∷ []; ends = Done }
events_plan setup step run (e ∷ events) =
    followed (event_plan setup step (told_of run e) (replies_at run e)) (events_plan setup (suc step) (turned run e) events)

-- the whole
unfoldable pub plan_of : Setup → List Event → Plan
plan_of setup events =
    then_plan (starts (roles_of setup) ++ set_ups 0 (seeds_of setup)) (events_plan setup 0 (Running (first_world setup)) events)
