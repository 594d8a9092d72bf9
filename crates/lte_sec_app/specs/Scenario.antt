-- What `run` writes for a scenario, and what holds of it.
use Rattle.std.specs.Prelude.{◌≡◌, ◌≢◌, ℕ, List, IfSome, Result, Ok, Err}
use Rattle.edge_io.specs.Told.{Told}
use Rattle.lte_events.specs.{Scenario.IsScenario, declared.events.Event.Event, declared.setups.Setup.Setup}
use Rattle.lte_hops.specs.Hops.{Hops}
use Rattle.lte_properties.specs.Headline.{Headline}
use Rattle.lte_recovery.specs.Recovery.{Recovery}
use Rattle.run_report.specs.{declared.endings.Ending.Ending, declared.unwritten.Unwritten.Unwritten, Report.Report, Report.report_of}
use Rattle.run_report.specs.declared.endings.Ending.TheVariants as ending
use Rattle.run_report.specs.declared.unwritten.Unwritten.TheVariants as unwritten
use Rattle.scenario_file.specs.{declared.faults.ScenarioFault.ScenarioFault, Reading.reading_of, Refused.refused_text}
use Rattle.scenario_file.specs.declared.faults.ScenarioFault.TheVariants as fault
use Rattle.lte_sec_app.specs.{declared.status.Status.Status, Run.Output, Run.WhereRun, Run.WritesAt}
use Rattle.lte_sec_app.specs.declared.status.Status.TheVariants.{Done, Memory, Refused, WriteFault, Coincidence}

-- the status of a report that ends so
abbrev pub report_status : Ending → Status
report_status ending.Done = Done
report_status ending.Chance = Coincidence

abbrev pub output_of_report : Report → Output
output_of_report report = record { text = report.text; ends = report_status report.ends }

-- why a text is no scenario
abbrev pub refusal_output : ScenarioFault → Output
refusal_output fault = record { text = refused_text fault; ends = Refused }

-- A text was not read as a scenario, by this fault: want of memory is answered as such, with nothing written; at each other fault the refusal
-- is written, for which no memory is wanted.
abbrev pub RefusedBy : ScenarioFault → Status → Told → Told → Type 0
RefusedBy why status out out' =
    (why ≡ fault.Memory → (status ≡ Memory) × (out' ≡ out))
    × (why ≢ fault.Memory → (status ≢ Memory) × WritesAt (refusal_output why) status out out')

abbrev pub IsRefused : {A : Type 0} → Result A ScenarioFault → Status → Told → Told → Type 0
IsRefused (Ok scenario) status out out' = ⊥
IsRefused (Err why) status out out' = RefusedBy why status out out'

-- the report of a scenario, or the refusal of a text that is none
abbrev pub output_of : Result (Setup × List Event) ScenarioFault → Output
output_of (Ok scenario) = output_of_report (report_of scenario.0 scenario.1)
output_of (Err fault) = refusal_output fault

-- the output for a text
abbrev pub run_output : List ℕ → Output
run_output octets = output_of (reading_of octets)

-- the status at which the writing of a report ended
abbrev pub status_of : Result Ending Unwritten → Status
status_of (Ok ends) = report_status ends
status_of (Err unwritten.Memory) = Memory
status_of (Err unwritten.WriteFault) = WriteFault

-- a text is a scenario, in the ranges of its types, and the headline holds of it
pub record HasHeadline (octets : List ℕ) : Type 0 where
  pub setup : Setup
  pub events : List Event
  pub reads : reading_of octets ≡ Ok (setup, events)
  pub ranges : IsScenario setup events
  pub holds : Headline setup events

-- a text is a scenario, and a law holds of it
pub record HasLaw (law : Setup → List Event → Type 0) (octets : List ℕ) : Type 0 where
  pub setup : Setup
  pub events : List Event
  pub reads : reading_of octets ≡ Ok (setup, events)
  pub holds : law setup events

-- behind any number of its steps a reconnection, or an authentication and one, leads back to one key
abbrev pub HasRecovery : List ℕ → Type 0
HasRecovery = HasLaw Recovery

-- in each world of its run keys are secure forward and backward
abbrev pub HasHops : List ℕ → Type 0
HasHops = HasLaw Hops

-- of the text that an input held, where it was read and ran
abbrev pub HoldsWhereRun : (List ℕ → Type 0) → Status → Told → Type 0
HoldsWhereRun holds status input = IfSome input.left (λ octets. WhereRun (holds octets) status)
