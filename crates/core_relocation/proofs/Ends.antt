-- Each text of a report of two cores is a line.
use Rattle.std.proofs.Common.{ℕ, Option, Some, None, refl}
use Rattle.std.specs.{Prelude.codes, Fmt.decimal}
use Rattle.edge_io.specs.Lines.{EndsLine}
use Rattle.edge_io.proofs.Ending.{feed, on}
use Rattle.lte_events.specs.{declared.lines.Line.Line, Answer.name_of}
use Rattle.report_text.specs.Details.{details_text}
use Rattle.report_text.specs.Line.{alarm_text, note_text, opened_text, sent_text}
use Rattle.run_report.proofs.Ends.{line_ends}
use Rattle.core_relocation.specs.declared.lines.TwoLine.{TwoLine}
use Rattle.core_relocation.specs.declared.lines.TwoLine.TheVariants.{By, NotHere}
use Rattle.core_relocation.specs.Report.{rest_text, core_text, not_here_text, by_text, two_text}

rest_ends : (line : Line) → EndsLine (rest_text line)
rest_ends line =
    on (name_of line.answer) _ (on (details_text line.answer) _ (on (sent_text line.sent) _ (on (opened_text line.opened) _
    (on (note_text line.note) _ (on (alarm_text line.alarm) _ feed)))))

core_ends : (line : Line) (core : ℕ) → EndsLine (core_text line core)
unfolding core_text
core_ends line core = on (decimal line.step) _ (on (codes " core ") _ (on (decimal core) _ (on (codes " ") _ (rest_ends line))))

not_here_ends : (step core : ℕ) → EndsLine (not_here_text step core)
unfolding not_here_text
not_here_ends step core = on (decimal step) _ (on (codes " core ") _ (on (decimal core) _ (record { last = refl })))

by_ends : (line : Line) (core : Option ℕ) → EndsLine (by_text line core)
by_ends line None = line_ends line
by_ends line (Some core) = core_ends line core

pub two_ends : (step : ℕ) (line : TwoLine) → EndsLine (two_text step line)
two_ends step (By line core) = by_ends line core
two_ends step (NotHere core) = not_here_ends step core
