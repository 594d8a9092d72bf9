-- The output of the program for a text.
use Rattle.std.specs.Prelude.{ℕ, ◌==◌, nat_lt, List, [], length, Result, Ok, Err, if◌then◌else◌}
use Rattle.item_faults.specs.Entries.{most_steps}
use Rattle.lte_events.specs.{declared.events.Event.Event, declared.setups.Setup.Setup}
use Rattle.scenario_file.specs.{declared.faults.ScenarioFault.ScenarioFault, Reading.reading_of, Refused.refused_text}
use Rattle.run_report.specs.declared.unwritten.Unwritten.{Unwritten}
use Rattle.run_report.specs.declared.unwritten.Unwritten.TheVariants as unwritten
use Rattle.variant_runs.specs.Original.{original_of, own_lines}
use Rattle.lte_variants.specs.{declared.request.Request.Request, declared.status.Status.Status, Report.report_of}
use Rattle.lte_variants.specs.declared.status.Status.TheVariants.{Done, Memory, Refused, WriteFault, Coincidence, TooManySteps}

-- what is written, and the status with which it ends
pub record Output : Type 0 where
  pub text : List ℕ
  pub ends : Status

abbrev pub nothing : Status → Output
nothing status = record { text = []; ends = status }

-- for a scenario of a few steps: nothing where its own run ends at a coincidence
abbrev pub few_output : Request → Setup → List Event → Output
few_output r setup events =
    if length (own_lines setup events) == length events then record { text = report_of r (original_of setup events); ends = Done }
    else nothing Coincidence

abbrev pub scenario_output : Request → Setup → List Event → Output
scenario_output r setup events = if nat_lt most_steps (length events) then nothing TooManySteps else few_output r setup events

-- why a text is no scenario
abbrev pub refusal_output : ScenarioFault → Output
refusal_output fault = record { text = refused_text fault; ends = Refused }

abbrev pub output_by : Request → Result (Setup × List Event) ScenarioFault → Output
output_by r (Ok scenario) = scenario_output r scenario.0 scenario.1
output_by r (Err fault) = refusal_output fault

-- for a text
abbrev pub output_of : Request → List ℕ → Output
output_of r octets = output_by r (reading_of octets)

-- the status at which the writing of a report ended
abbrev pub status_of : Result (Unit {0}) Unwritten → Status
status_of (Ok done) = Done
status_of (Err unwritten.Memory) = Memory
status_of (Err unwritten.WriteFault) = WriteFault
