-- What `gen` writes.
use Rattle.std.specs.Prelude.{◌≡◌, ◌⊎◌, ℕ}
use Rattle.edge_io.specs.{Told.Told, Cause.Rose, Octets.Grows}
use Rattle.run_report.specs.Summary.{summary_of}
use Rattle.scenario_file.specs.Draws.{generated_setup, generated}
use Rattle.lte_sec_app.specs.{declared.status.Status.Status, declared.status.Status.TheVariants.Memory, Run.Output, Scenario.output_of_report}

-- the summary of the scenario that a seed gives
abbrev pub gen_output : ℕ → ℕ → Output
gen_output steps seed = output_of_report (summary_of generated_setup (generated steps seed))

-- Where no count rose, the whole output is written and the status is that of the output, unless memory ran out.
abbrev pub WritingIsComplete : Output → Status → Told → Told → Type 0
WritingIsComplete output status out out' =
    ¬ (Rose out.write_faults out'.write_faults) → ((status ≡ output.ends) × Grows out.written out'.written output.text) ⊎ (status ≡ Memory)
