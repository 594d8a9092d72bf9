-- The report of an audit is that of the run in octets.
use Rattle.std.proofs.Common.{◌≡◌, sym, ap, ◌∙◌, ℕ, List, []}
use Rattle.key_audit.specs.Text.{audit_text}
use Rattle.key_terms.specs.{declared.proof.Proof.Proof, declared.row.LadderRow.LadderRow}
use Rattle.lte_events.specs.{declared.events.Event.Event, declared.setups.Setup.Setup, Scenario.IsScenario}
use Rattle.lte_machine.specs.{BothRuns.octet_run, BothRuns.octet_report, Machines.Kept}
use Rattle.lte_machine.specs.Run.{RunState, Running, Stopped, GoesOn}
use Rattle.lte_world.specs.Whole.{InRun}
use Rattle.report_text.specs.{Coincidence.coincidence_text, Summary.Tallied}
use Rattle.run_report.specs.declared.endings.Ending.TheVariants.{Done, Chance}
use Rattle.run_report.specs.{Counted.Ended, Summary.Coincides, Summary.outcome_from}
use Rattle.run_report.proofs.ReportByEvent.{in_octets}
use Rattle.store_laws.specs.Rows.{world_rows}
use Rattle.audit_report.specs.AuditReport.{audit_in, audit_with, audit_report_of}

audit_is : {setup : Setup} {events : List Event}
    → IsScenario setup events
    → audit_report_of setup events
    ≡ audit_with (audit_in (octet_run setup events)) (outcome_from [] (octet_report setup events))
unfolding audit_report_of
audit_is scenario = in_octets (λ run told. audit_with (audit_in run) (outcome_from [] told)) scenario

rows_in : (run : RunState (List ℕ) ℕ Kept) (rows : List LadderRow) → GoesOn run → InRun (λ w. rows ≡ world_rows w) run → audit_in run ≡ audit_text rows
rows_in (Running w) rows goes are = ap audit_text (sym are)
rows_in (Stopped coincidence) rows goes are = absurd goes

pub audit_ended : {setup : Setup} {events : List Event} {tally : Tallied} {run : RunState (List ℕ) ℕ Kept}
    (rows : List LadderRow)
    → IsScenario setup events
    → Ended setup events tally run
    → InRun (λ w. rows ≡ world_rows w) run
    → audit_report_of setup events ≡ record { text = audit_text rows; ends = Done }
audit_ended {setup} {events} {run} rows scenario e are =
    audit_is scenario ∙ ap (audit_with (audit_in (octet_run setup events))) e.all
    ∙ ap (λ t. record { text = t; ends = Done }) (ap audit_in (sym e.state) ∙ rows_in run rows e.goes are)

pub audit_coincidence : {setup : Setup} {events : List Event} (step : ℕ) (proof : Proof)
    → IsScenario setup events
    → outcome_from [] (octet_report setup events) ≡ Coincides step proof
    → audit_report_of setup events ≡ record { text = coincidence_text step proof; ends = Chance }
audit_coincidence {setup} {events} step proof scenario e = audit_is scenario ∙ ap (audit_with (audit_in (octet_run setup events))) e
