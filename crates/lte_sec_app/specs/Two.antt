-- What `two` writes for a scenario of two cores, and what holds of it.
use Rattle.std.specs.Prelude.{◌≡◌, ℕ, List, Result, Ok, Err}
use Rattle.core_relocation.specs.{Promises.TwoHeadline, Report.two_report_of}
use Rattle.lte_events.specs.{declared.events.Event.Event, declared.setups.Setup.Setup}
use Rattle.scenario_file.specs.{declared.faults.ScenarioFault.ScenarioFault, Reading.two_reading_of}
use Rattle.lte_sec_app.specs.{Run.Output, Scenario.output_of_report, Scenario.refusal_output}

-- the report of a run with two cores, or the refusal of a text that is none
abbrev pub output_of : Result (Setup × List ℕ × List Event) ScenarioFault → Output
output_of (Ok scenario) = output_of_report (two_report_of scenario.0 scenario.1 scenario.2)
output_of (Err fault) = refusal_output fault

-- the output for a text
abbrev pub two_output : List ℕ → Output
two_output octets = output_of (two_reading_of octets)

-- a text is a scenario of two cores: the headline holds of the events that the system saw, and a core acts only where it held the
-- context or was to get it
pub record HasTwo (octets : List ℕ) : Type 0 where
  pub setup : Setup
  -- the core of each station
  pub core_of : List ℕ
  pub events : List Event
  pub reads : two_reading_of octets ≡ Ok (setup, core_of, events)
  pub holds : TwoHeadline setup core_of events
