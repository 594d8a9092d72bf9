use Rattle.std.proofs.Common.{Err, sym, ap, refl, ◌∙◌}
use Rattle.ladder_text.proofs.Printing.{row_written, taken_written}
use Rattle.ladder_text.proofs.report.write_line.Goals as goal

pub returns-in-Ok-clause-line : goal.returns-in-Ok-clause-line
returns-in-Ok-clause-line g c = λ rows stand met.
    let asks = c.asked_by-asked.ensures rows stand in
    let answer = sym c.in-Ok.is ∙ c.place.ensures.answer rows c.args.line.now stand met asks in
    row_written rows c.args.ladder.now.rows c.args.line.now c.args.number c.in-Ok.row _ c.write_row.result _ _ stand
    answer refl (c.write_row.ensures.text _ (c.place.ensures.rows rows c.args.line.now stand met asks))

pub returns-in-Err-Coincidence-clause-line : goal.returns-in-Err-Coincidence-clause-line
returns-in-Err-Coincidence-clause-line g c = λ rows stand met.
    let asks = c.asked_by-asked.ensures rows stand in
    let answer = c.place.ensures.answer rows c.args.line.now stand met asks in
    let text = c.coincidence_line-text.ensures.text rows c.args.line.now asks in
    taken_written rows c.args.line.now c.args.number c.in-Err-Coincidence.row _ c.write_text.result _ _
    (sym (c.in-Err-Coincidence.is ∙ ap Err c.in-Err-Coincidence.field-0-is) ∙ answer)
    (c.write_text.ensures.text _ text)
