-- What `ladder` writes for a text.
use Rattle.std.specs.Prelude.{ℕ, List}
use Rattle.ladder_text.specs.{declared.ending.Ending.Ending, Text.reading_of, Report.output_of}
use Rattle.ladder_text.specs.declared.ending.Ending.TheVariants as ending
use Rattle.lte_sec_app.specs.{declared.status.Status.Status, Run.Output}
use Rattle.lte_sec_app.specs.declared.status.Status.TheVariants.{Done, Memory, Refused, WriteFault, Coincidence}

-- the status of an ending
abbrev pub status_of : Ending → Status
status_of ending.Done = Done
status_of ending.Memory = Memory
status_of ending.Refused = Refused
status_of ending.WriteFault = WriteFault
status_of ending.Coincidence = Coincidence

-- the output for a ladder text
abbrev pub ladder_output : List ℕ → Output
ladder_output octets =
    let output = output_of (reading_of octets) in record { text = output.text; ends = status_of output.ends }
