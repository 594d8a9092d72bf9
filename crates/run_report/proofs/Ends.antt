-- Each text of a report is whole lines.
use Rattle.std.proofs.Common.{◌≡◌, ℕ, ◌+◌, true, List, [], ◌∷◌, refl}
use Rattle.std.specs.{Prelude.codes, Fmt.decimal}
use Rattle.edge_io.specs.Lines.{EndsLine, are_lines}
use Rattle.edge_io.proofs.Ending.{feed, on, is_lines, lines_both}
use Rattle.key_terms.specs.{declared.proof.Proof.Proof, declared.row.LadderRow.LadderRow}
use Rattle.lte_events.specs.{declared.lines.Line.Line, Answer.name_of}
use Rattle.report_text.specs.{declared.summaries.Figure.Figure, Coincidence.proof_text, Coincidence.coincidence_text, Details.details_text, End.end_text}
use Rattle.report_text.specs.Ladder.{row_head, without_comma, each_holder, row_text, rows_from, ladder_text}
use Rattle.report_text.specs.Line.{who_text, sent_text, opened_text, note_text, alarm_text, line_text}
use Rattle.report_text.specs.Summary.{Tallied, number_of, figure_text}
use Rattle.report_text.specs.Summary as summary

pub line_ends : (line : Line) → EndsLine (line_text line)
unfolding line_text
line_ends line =
    on (decimal line.step) _ (on (codes " ") _ (on (who_text line.who) _ (on (codes " ") _ (on (name_of line.answer) _
    (on (details_text line.answer) _ (on (sent_text line.sent) _ (on (opened_text line.opened) _ (on (note_text line.note) _
    (on (alarm_text line.alarm) _ feed)))))))))

pub coincidence_ends : (step : ℕ) (proof : Proof) → EndsLine (coincidence_text step proof)
unfolding coincidence_text
coincidence_ends step proof = on (decimal step) _ (on (codes " coincidence ") _ (on (proof_text proof) _ feed))

pub end_ends : (events records rows : ℕ) → EndsLine (end_text events records rows)
unfolding end_text
end_ends events records rows =
    on (codes "end ") _ (on (decimal events) _ (on (codes " ") _ (on (decimal records) _ (on (codes " ") _ (on (decimal rows) _ feed)))))

pub row_ends : (rows : List LadderRow) (k : ℕ) (row : LadderRow) → EndsLine (row_text rows k row)
row_ends rows k row = on (row_head rows k row) _ (on (without_comma (each_holder row)) _ feed)

rows_are : (rows : List LadderRow) (k : ℕ) (rest : List LadderRow) → are_lines (rows_from rows k rest) ≡ true
rows_are rows k [] = refl
rows_are rows k (row ∷ rest) = lines_both (row_text rows k row) (rows_from rows (k + 1) rest) (is_lines _ (row_ends rows k row)) (rows_are rows (k + 1) rest)

pub ladder_is : (rows : List LadderRow) → are_lines (ladder_text rows) ≡ true
ladder_is rows = rows_are rows 0 rows

pub figure_ends : (tally : Tallied) (rows : ℕ) (figure : Figure) → EndsLine (figure_text tally rows figure)
unfolding figure_text
figure_ends tally rows figure = on (summary.name_of figure) _ (on (codes " ") _ (on (decimal (number_of tally rows figure)) _ feed))
