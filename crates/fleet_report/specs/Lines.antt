-- The lines of a fleet's report.
use Rattle.std.specs.Prelude.{ℕ, ◌+◌, List, [], ◌∷◌, ◌++◌, codes, length, Result, Ok, Err}
use Rattle.std.specs.{List.flat_map, Fmt.decimal}
use Rattle.key_terms.specs.declared.row.LadderRow.{LadderRow}
use Rattle.lte_machine.specs.Machines.{Kept}
use Rattle.lte_machine.specs.Run.{RunState, Running, Stopped}
use Rattle.report_text.specs.{Coincidence.HasString, Coincidence.coincidence_text, End.end_text, Ladder.row_text, Line.line_text}
use Rattle.store_laws.specs.Rows.{world_rows}
use Rattle.fleet_world.specs.{declared.faults.FleetFault.FleetFault, declared.lines.FleetLine.FleetLine}
use Rattle.fleet_world.specs.declared.faults.FleetFault.TheVariants as fault
use Rattle.fleet_world.specs.declared.lines.FleetLine.TheVariants as line

-- a line of a phone, by its number, or one of the fleet
pub data Output : Type 0 where
  ByPhone : ℕ → List ℕ → Output
  ByFleet : List ℕ → Output

-- the number of the phone, a blank, and the line as the phone's own report has it
unfoldable pub phone_prefix : ℕ → List ℕ
phone_prefix p = decimal p ++ codes " "

abbrev pub phone_text : ℕ → List ℕ → List ℕ
phone_text p text = phone_prefix p ++ text

abbrev pub output_text : Output → List ℕ
output_text (ByPhone p text) = phone_text p text
output_text (ByFleet text) = text

abbrev pub texts : List Output → List ℕ
texts outputs = flat_map output_text outputs

-- TAKEN AND CROSS, by the step among all events

unfoldable pub taken_text : ℕ → ℕ → List ℕ
taken_text step q = codes "fleet " ++ (decimal step ++ (codes " taken " ++ (decimal q ++ codes "\n")))

unfoldable pub cross_text : ℕ → ℕ → ℕ → ℕ → ℕ → List ℕ
cross_text step p row q other =
    codes "fleet " ++ (decimal step ++ (codes " coincidence " ++ (decimal p ++ (codes " " ++ (decimal row
    ++ (codes " " ++ (decimal q ++ (codes " " ++ (decimal other ++ codes "\n")))))))))

-- the line for an answer: its step among all events, and among the phone's own
abbrev pub answer_output : ℕ → ℕ → Result FleetLine FleetFault → Output
answer_output step own (Ok (line.Of p told)) = ByPhone p (line_text told)
answer_output step own (Ok (line.Taken q)) = ByFleet (taken_text step q)
answer_output step own (Err (fault.Chance p proof)) = ByPhone p (coincidence_text own proof)
answer_output step own (Err (fault.Cross p row q other)) = ByFleet (cross_text step p row.0 q other.0)
answer_output step own (Err fault.Memory) = ByFleet []

-- a derivation in it has a string S
abbrev pub IsShown : FleetFault → Type 0
IsShown (fault.Chance p proof) = HasString proof
IsShown other = Unit {0}

-- THE END

-- the rows of a phone's ladder from row k on
abbrev pub row_outputs : ℕ → List LadderRow → ℕ → List LadderRow → List Output
row_outputs p rows k [] = []
row_outputs p rows k (r ∷ rest) = ByPhone p (row_text rows k r) ∷ row_outputs p rows (k + 1) rest

-- how much there was of everything, and the rows of the ladder, where no coincidence ended it
abbrev pub end_outputs : ℕ → ℕ → RunState (List ℕ) ℕ Kept → List Output
end_outputs p events (Running w) = ByPhone p (end_text events (length w.sent) (length (world_rows w))) ∷ row_outputs p (world_rows w) 0 (world_rows w)
end_outputs p events (Stopped coincidence) = []
