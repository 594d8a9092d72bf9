-- The report of a run: a line for each event up to the first coincidence, and where there is none, how much there was of
-- everything and the rows of the ladder.
use Rattle.std.specs.Prelude.{ℕ, suc, List, [], ◌∷◌, ◌++◌, length, map}
use Rattle.lte_events.specs.{declared.events.Event.Event, declared.setups.Setup.Setup}
use Rattle.lte_machine.specs.{BothRuns.written_run, BothRuns.written_report, Calls.line_out, Carried.run_value, Carried.report_value, Ciphers.annex_b, Machines.Kept, World.World}
use Rattle.lte_machine.specs.Run.{RunState, Running, Stopped, EventReport, Reported, Coincided}
use Rattle.report_text.specs.{Line.line_text, Coincidence.coincidence_text, End.end_text, Ladder.ladder_text}
use Rattle.store_laws.specs.{Proofs.proof_of, Rows.world_rows}
use Rattle.run_report.specs.declared.endings.Ending.{Ending}
use Rattle.run_report.specs.declared.endings.Ending.TheVariants.{Done, Chance}

-- a report, and how it ends
pub record Report : Type 0 where
  pub text : List ℕ
  pub ends : Ending

-- the end of a run that met no coincidence: its events, records and rows by number, and the rows
abbrev pub end_of_world : ℕ → World (List ℕ) ℕ Kept → List ℕ
end_of_world events w = end_text events (length w.sent) (length (world_rows w)) ++ ladder_text (world_rows w)

abbrev pub end_of : ℕ → RunState (List ℕ) ℕ Kept → List ℕ
end_of events (Running w) = end_of_world events w
end_of events (Stopped coincidence) = []

-- a text before a report
abbrev pub before : List ℕ → Report → Report
before text report = record { text = text ++ report.text; ends = report.ends }

-- what is told of each event, this step and those behind it, to the first coincidence; and then the end
abbrev pub told_from : ℕ → List (EventReport (List ℕ)) → List ℕ → Report
told_from step [] end = record { text = end; ends = Done }
told_from step (Reported line ∷ rest) end = before (line_text (line_out line)) (told_from (suc step) rest end)
told_from step (Coincided coincidence ∷ rest) end = record { text = coincidence_text step (proof_of coincidence); ends = Chance }

-- the report of the written machine's run over key terms, printed in values
unfoldable pub report_of : Setup → List Event → Report
report_of setup events = told_from 0 (map report_value (written_report setup events)) (end_of (length events) (run_value annex_b (written_run setup events)))
