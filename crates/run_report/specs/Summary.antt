-- The summary of a run: what its lines come to where no coincidence ends it, and otherwise the coincidence alone.
use Rattle.std.specs.Prelude.{ℕ, List, [], ◌∷◌, ◌++◌, length, map}
use Rattle.lte_events.specs.{declared.events.Event.Event, declared.lines.Line.Line, declared.setups.Setup.Setup}
use Rattle.key_terms.specs.declared.proof.Proof.{Proof}
use Rattle.lte_machine.specs.{BothRuns.written_run, BothRuns.written_report, Calls.line_out, Carried.run_value, Carried.report_value, Ciphers.annex_b, Machines.Kept}
use Rattle.lte_machine.specs.Run.{RunState, Running, Stopped, EventReport, Reported, Coincided}
use Rattle.report_text.specs.{Coincidence.coincidence_text, Summary.summary_text}
use Rattle.store_laws.specs.{Proofs.proof_of, Rows.world_rows}
use Rattle.run_report.specs.declared.endings.Ending.TheVariants.{Done, Chance}
use Rattle.run_report.specs.Report.{Report}

-- how a run comes out: all its lines, or a coincidence at a step
pub data Outcome : Type 0 where
  AllLines : List Line → Outcome
  Coincides : ℕ → Proof → Outcome

-- of what is told of each event, behind these lines
abbrev pub outcome_from : List Line → List (EventReport (List ℕ)) → Outcome
outcome_from lines [] = AllLines lines
outcome_from lines (Reported line ∷ rest) = outcome_from (lines ++ line_out line ∷ []) rest
outcome_from lines (Coincided coincidence ∷ rest) = Coincides (length lines) (proof_of coincidence)

-- how many rows the ladder has then
abbrev pub rows_in : RunState (List ℕ) ℕ Kept → ℕ
rows_in (Running w) = length (world_rows w)
rows_in (Stopped coincidence) = 0

abbrev pub summary_with : ℕ → Outcome → Report
summary_with rows (AllLines lines) = record { text = summary_text lines rows; ends = Done }
summary_with rows (Coincides step proof) = record { text = coincidence_text step proof; ends = Chance }

-- the summary of the written machine's run over key terms, printed in values
unfoldable pub summary_of : Setup → List Event → Report
summary_of setup events =
    summary_with (rows_in (run_value annex_b (written_run setup events))) (outcome_from [] (map report_value (written_report setup events)))
