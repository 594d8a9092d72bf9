-- What a fleet tells of one phone is what a system of that phone's own events tells.
use Rattle.std.specs.Prelude.{◌≡◌, ℕ, ◌<◌, ◌==◌, Bool, true, false, List, [], ◌∷◌, map, Result, Ok, Err}
use Rattle.lte_events.specs.{declared.events.Event.Event, declared.lines.Line.Line, declared.setups.Setup.Setup}
use Rattle.lte_machine.specs.{BothRuns.written_report, Calls.line_out, Carried.report_value}
use Rattle.lte_machine.specs.Run.{EventReport, Reported, Coincided}
use Rattle.fleet_world.specs.{declared.faults.FleetFault.FleetFault, declared.lines.FleetLine.FleetLine}
use Rattle.fleet_world.specs.declared.lines.FleetLine.TheVariants as line
use Rattle.fleet_world.specs.Answers.{answer, own, owns_after, no_events}

-- what is answered to each event, where these are the phones' own events before
abbrev pub answers : Setup → List (List Event) → List (ℕ × Event) → List (Result FleetLine FleetFault)
answers setup owns [] = []
answers setup owns (x ∷ xs) = answer setup owns x.0 x.1 ∷ answers setup (owns_after setup owns x.0 x.1) xs

-- the lines of phone p among the answers
abbrev pub line_if : Bool → Line → List Line → List Line
line_if true told lines = told ∷ lines
line_if false told lines = lines

abbrev pub lines_of : ℕ → List (Result FleetLine FleetFault) → List Line
lines_of p [] = []
lines_of p (Ok (line.Of q told) ∷ rest) = line_if (q == p) told (lines_of p rest)
lines_of p (Ok (line.Taken q) ∷ rest) = lines_of p rest
lines_of p (Err ended ∷ rest) = lines_of p rest

-- the lines of the written machine's run of a phone's own events, in values
abbrev pub lines_in : List (EventReport (List ℕ)) → List Line
lines_in [] = []
lines_in (Reported told ∷ rest) = line_out told ∷ lines_in rest
lines_in (Coincided coincidence ∷ rest) = lines_in rest

abbrev pub own_lines : Setup → List Event → List Line
own_lines setup own = lines_in (map report_value (written_report setup own))

-- the lines of each phone are those of its own events, whatever the other phones do
abbrev pub LinesAreOwn : Setup → ℕ → List (ℕ × Event) → Type 0
LinesAreOwn setup phones events =
    (p : ℕ) → p < phones → lines_of p (answers setup (no_events phones) events) ≡ own_lines setup (own setup phones events p)
