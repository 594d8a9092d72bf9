-- What `fleet` writes for a scenario of many phones, and what holds of it.
use Rattle.std.specs.Prelude.{◌≡◌, ℕ, List, Result, Ok, Err}
use Rattle.lte_events.specs.{declared.events.Event.Event, declared.setups.Setup.Setup}
use Rattle.fleet_report.specs.Promises as promises
use Rattle.fleet_report.specs.Report.{fleet_report_of}
use Rattle.scenario_file.specs.{declared.faults.ScenarioFault.ScenarioFault, Reading.fleet_reading_of}
use Rattle.lte_sec_app.specs.{Run.Output, Scenario.output_of_report, Scenario.refusal_output}

-- the report of a fleet, or the refusal of a text that is none
abbrev pub output_of : Result (Setup × ℕ × List (ℕ × Event)) ScenarioFault → Output
output_of (Ok scenario) = output_of_report (fleet_report_of scenario.0 scenario.1 scenario.2)
output_of (Err fault) = refusal_output fault

-- the output for a text
abbrev pub fleet_output : List ℕ → Output
fleet_output octets = output_of (fleet_reading_of octets)

-- a text is a scenario of many phones: the headline holds of each phone's own events, and the phones are apart
pub record HasFleet (octets : List ℕ) : Type 0 where
  pub setup : Setup
  pub phones : ℕ
  pub events : List (ℕ × Event)
  pub reads : fleet_reading_of octets ≡ Ok (setup, phones, events)
  pub holds : promises.Holds setup phones events
