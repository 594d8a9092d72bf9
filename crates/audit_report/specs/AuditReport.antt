-- The audit of a run: where no coincidence ends it, who can derive each of its keys; and otherwise the coincidence alone.
use Rattle.std.specs.Prelude.{ℕ, List, [], map}
use Rattle.key_audit.specs.Text.{audit_text}
use Rattle.lte_events.specs.{declared.events.Event.Event, declared.setups.Setup.Setup}
use Rattle.lte_machine.specs.{BothRuns.written_run, BothRuns.written_report, Carried.run_value, Carried.report_value, Ciphers.annex_b, Machines.Kept}
use Rattle.lte_machine.specs.Run.{RunState, Running, Stopped}
use Rattle.report_text.specs.Coincidence.{coincidence_text}
use Rattle.run_report.specs.declared.endings.Ending.TheVariants.{Done, Chance}
use Rattle.run_report.specs.Report.{Report}
use Rattle.run_report.specs.Summary.{Outcome, AllLines, Coincides, outcome_from}
use Rattle.store_laws.specs.Rows.{world_rows}

-- the text of the exact audit of the ladder of a run
abbrev pub audit_in : RunState (List ℕ) ℕ Kept → List ℕ
audit_in (Running w) = audit_text (world_rows w)
audit_in (Stopped coincidence) = []

abbrev pub audit_with : List ℕ → Outcome → Report
audit_with text (AllLines lines) = record { text = text; ends = Done }
audit_with text (Coincides step proof) = record { text = coincidence_text step proof; ends = Chance }

-- the audit of the written machine's run over key terms, printed in values
unfoldable pub audit_report_of : Setup → List Event → Report
audit_report_of setup events =
    audit_with (audit_in (run_value annex_b (written_run setup events))) (outcome_from [] (map report_value (written_report setup events)))
