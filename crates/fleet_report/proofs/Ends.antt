-- Each text of a report of many phones is whole lines.
use Rattle.std.proofs.Common.{◌≡◌, ℕ, true, List, Ok, Err, refl}
use Rattle.std.specs.{Prelude.codes, Fmt.decimal}
use Rattle.edge_io.specs.Lines.{EndsLine, are_lines}
use Rattle.edge_io.proofs.Ending.{feed, on, is_lines}
use Rattle.run_report.proofs.Ends.{line_ends, coincidence_ends}
use Rattle.fleet_world.specs.{declared.faults.FleetFault.FleetFault, declared.lines.FleetLine.FleetLine}
use Rattle.fleet_world.specs.declared.faults.FleetFault.TheVariants as fault
use Rattle.fleet_world.specs.declared.lines.FleetLine.TheVariants as line
use Rattle.fleet_report.specs.Lines.{phone_prefix, phone_text, output_text, taken_text, cross_text, answer_output}

pub phone_ends : (p : ℕ) (text : List ℕ) → EndsLine text → EndsLine (phone_text p text)
phone_ends p text ends = on (phone_prefix p) text ends

taken_ends : (step q : ℕ) → EndsLine (taken_text step q)
unfolding taken_text
taken_ends step q = on (codes "fleet ") _ (on (decimal step) _ (on (codes " taken ") _ (on (decimal q) _ feed)))

cross_ends : (step p row q other : ℕ) → EndsLine (cross_text step p row q other)
unfolding cross_text
cross_ends step p row q other =
    on (codes "fleet ") _ (on (decimal step) _ (on (codes " coincidence ") _ (on (decimal p) _ (on (codes " ") _ (on (decimal row) _
    (on (codes " ") _ (on (decimal q) _ (on (codes " ") _ (on (decimal other) _ feed)))))))))

pub told_is : (step own : ℕ) (told : FleetLine) → are_lines (output_text (answer_output step own (Ok told))) ≡ true
told_is step own (line.Of p told) = is_lines _ (phone_ends p _ (line_ends told))
told_is step own (line.Taken q) = is_lines _ (taken_ends step q)

pub fault_is : (step own : ℕ) (ended : FleetFault) → are_lines (output_text (answer_output step own (Err ended))) ≡ true
fault_is step own (fault.Chance p proof) = is_lines _ (phone_ends p _ (coincidence_ends own proof))
fault_is step own (fault.Cross p row q other) = is_lines _ (cross_ends step p row.0 q other.0)
fault_is step own fault.Memory = refl
