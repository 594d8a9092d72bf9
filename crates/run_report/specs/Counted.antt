-- The events of a run as they are counted.
use Rattle.std.specs.Prelude.{◌≡◌, ℕ, List, [], Result, Ok, Err}
use Rattle.lte_events.specs.{declared.events.Event.Event, declared.lines.Line.Line, declared.setups.Setup.Setup}
use Rattle.lte_machine.specs.{BothRuns.octet_run, BothRuns.octet_report, Calls.line_out, Machines.Kept}
use Rattle.lte_machine.specs.Run.{RunState, EventReport, Reported, Coincided, GoesOn}
use Rattle.lte_world.specs.declared.faults.WorldFault.{WorldFault}
use Rattle.lte_world.specs.declared.faults.WorldFault.TheVariants as fault
use Rattle.report_text.specs.Summary.{Tallied, tally_of}
use Rattle.store_laws.specs.Proofs.{proof_of}
use Rattle.run_report.specs.{declared.courses.Course.Course, Events.CanShow}
use Rattle.run_report.specs.declared.courses.Course.TheVariants as course
use Rattle.run_report.specs.Summary.{AllLines, Coincides, outcome_from}

-- an answer to an event: what is told of it, or that memory ran out
abbrev pub Tells : EventReport (List ℕ) → Result Line WorldFault → Type 0
Tells told (Err fault.Memory) = Unit {0}
Tells (Reported told) (Ok line) = line ≡ line_out told
Tells (Coincided coincidence) (Err (fault.Chance proof)) = (proof ≡ proof_of coincidence) × CanShow proof
Tells (Reported told) (Err (fault.Chance proof)) = ⊥
Tells (Coincided coincidence) (Ok line) = ⊥

-- all events happened, and their lines are counted
pub record Ended (setup : Setup) (events : List Event) (tally : Tallied) (run : RunState (List ℕ) ℕ Kept) : Type 0 where
  pub lines : List Line
  pub all : outcome_from [] (octet_report setup events) ≡ AllLines lines
  pub tallied : tally ≡ tally_of lines
  pub state : run ≡ octet_run setup events
  pub goes : GoesOn run

-- how a run comes out
abbrev pub ComesOut : Setup → List Event → Tallied → RunState (List ℕ) ℕ Kept → Course → Type 0
ComesOut setup events tally run course.Ended = Ended setup events tally run
ComesOut setup events tally run (course.Chance step proof) = (outcome_from [] (octet_report setup events) ≡ Coincides step proof) × CanShow proof
