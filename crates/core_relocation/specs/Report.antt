-- The report of a run with two cores: that of `run`, with the number of the core in each line of a core.
use Rattle.std.specs.Prelude.{ℕ, suc, Option, Some, None, List, [], ◌∷◌, ◌++◌, length, codes, Result, Ok, Err}
use Rattle.std.specs.Fmt.{decimal}
use Rattle.lte_events.specs.{declared.events.Event.Event, declared.lines.Line.Line, declared.setups.Setup.Setup, Answer.name_of}
use Rattle.lte_world.specs.declared.faults.WorldFault.{WorldFault}
use Rattle.lte_world.specs.declared.faults.WorldFault.TheVariants.{Memory, Chance}
use Rattle.report_text.specs.{Coincidence.coincidence_text, Details.details_text}
use Rattle.report_text.specs.Line.{alarm_text, line_text, note_text, opened_text, sent_text}
use Rattle.run_report.specs.declared.endings.Ending.{Ending}
use Rattle.run_report.specs.declared.endings.Ending.TheVariants as ending
use Rattle.run_report.specs.Report.{Report, before, end_of}
use Rattle.core_relocation.specs.declared.lines.TwoLine.{TwoLine}
use Rattle.core_relocation.specs.declared.lines.TwoLine.TheVariants.{By, NotHere}
use Rattle.core_relocation.specs.Run.{answers, first_state, heard_of, run_after}

-- a line of a core: step, core, answer, and then what there is of the rest
abbrev pub rest_text : Line → List ℕ
rest_text line =
    name_of line.answer
    ++ (details_text line.answer ++ (sent_text line.sent ++ (opened_text line.opened ++ (note_text line.note
    ++ (alarm_text line.alarm ++ codes "\n")))))

unfoldable pub core_text : Line → ℕ → List ℕ
core_text line core = decimal line.step ++ (codes " core " ++ (decimal core ++ (codes " " ++ rest_text line)))

-- an event that asks a core which does not hold the context
unfoldable pub not_here_text : ℕ → ℕ → List ℕ
not_here_text step core = decimal step ++ (codes " core " ++ (decimal core ++ codes " NotHere\n"))

abbrev pub by_text : Line → Option ℕ → List ℕ
by_text line None = line_text line
by_text line (Some core) = core_text line core

abbrev pub two_text : ℕ → TwoLine → List ℕ
two_text step (By line core) = by_text line core
two_text step (NotHere core) = not_here_text step core

-- a coincidence, which counts all events
abbrev pub fault_text : ℕ → WorldFault → List ℕ
fault_text step (Chance proof) = coincidence_text step proof
fault_text step Memory = []

abbrev pub told_text : ℕ → Result TwoLine WorldFault → List ℕ
told_text step (Ok line) = two_text step line
told_text step (Err fault) = fault_text step fault

abbrev pub answer_ends : Result TwoLine WorldFault → Ending
answer_ends (Ok line) = ending.Done
answer_ends (Err fault) = ending.Chance

-- and both
abbrev pub answer_report : ℕ → Result TwoLine WorldFault → Report
answer_report step answer = record { text = told_text step answer; ends = answer_ends answer }

-- what is answered to each event, this step and those behind it, to the first coincidence; and then the end
abbrev pub two_told_from : ℕ → List (Result TwoLine WorldFault) → List ℕ → Report
two_told_from step [] end = record { text = end; ends = ending.Done }
two_told_from step (Ok line ∷ rest) end = before (two_text step line) (two_told_from (suc step) rest end)
two_told_from step (Err fault ∷ rest) end = record { text = fault_text step fault; ends = ending.Chance }

-- the report of the written machine's run with two cores, printed in values; its end is that of the system, which counts the
-- events that it saw
unfoldable pub two_report_of : Setup → List ℕ → List Event → Report
two_report_of setup core_of events =
    two_told_from 0 (answers setup core_of first_state events)
    (end_of (length (heard_of setup core_of events)) (run_after setup core_of (heard_of setup core_of events)))
