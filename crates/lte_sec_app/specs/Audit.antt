-- What `audit` writes for a scenario, and what holds of it.
use Rattle.std.specs.Prelude.{◌≡◌, ℕ, List, Result, Ok, Err}
use Rattle.audit_report.specs.{Alone.EachAlone, AuditReport.audit_report_of, Audited.AuditIsExact, OfRun.AuditIsOfRun}
use Rattle.lte_events.specs.{declared.events.Event.Event, declared.setups.Setup.Setup}
use Rattle.lte_properties.specs.Headline.{Headline}
use Rattle.run_report.specs.declared.endings.Ending.TheVariants.{Done}
use Rattle.scenario_file.specs.{declared.faults.ScenarioFault.ScenarioFault, Reading.reading_of}
use Rattle.lte_sec_app.specs.{Run.Output, Scenario.output_of_report, Scenario.refusal_output}

-- the audit of a scenario, or the refusal of a text that is none
abbrev pub output_of : Result (Setup × List Event) ScenarioFault → Output
output_of (Ok scenario) = output_of_report (audit_report_of scenario.0 scenario.1)
output_of (Err fault) = refusal_output fault

-- the output for a text
abbrev pub audit_output : List ℕ → Output
audit_output octets = output_of (reading_of octets)

-- a text is a scenario of which the headline holds; where no coincidence ends it its audit is exact, and that of the written run; and
-- what stations can derive of its keys together, one of them can alone
pub record HasAudit (octets : List ℕ) : Type 0 where
  pub setup : Setup
  pub events : List Event
  pub reads : reading_of octets ≡ Ok (setup, events)
  pub headline : Headline setup events
  pub exact : (audit_report_of setup events).ends ≡ Done → AuditIsExact setup events
  pub of_run : (audit_report_of setup events).ends ≡ Done → AuditIsOfRun setup events
  pub alone : EachAlone setup events
