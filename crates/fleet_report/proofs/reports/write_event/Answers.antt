use Rattle.std.proofs.Common.{◌≡◌, sym, ap, subst, ◌∙◌, length, Ok, Err, true}
use Rattle.lte_world.specs.Whole.{Whole}
use Rattle.fleet_world.specs.{Answers.own_at, Fleets.owns_in}
use Rattle.fleet_report.specs.{Events.answer_report, Events.event_report, Lines.output_text, Lines.answer_output}
use Rattle.fleet_report.proofs.{ReportByPiece.if_ok, CoincidenceHasText.fault_shown, CoincidenceHasText.fault_reported, Ends.told_is}
use Rattle.edge_io.specs.Lines.{are_lines}
use Rattle.run_report.specs.Written.{WritesReport}
use Rattle.run_report.proofs.Partly.{one_piece, never_done}
use Rattle.fleet_report.proofs.reports.write_event.Goals as goal

pub write_text-requires-clause-lines : goal.write_text-requires-clause-lines
write_text-requires-clause-lines g c =
    if_ok _ (λ t. are_lines t.items ≡ true) c.told_text.result
    (λ t is. ap are_lines (is 0) ∙ told_is c.len-step.result 0 c.in-Ok.told) c.told_text.ensures.text

pub write_fault-requires-clause-shown : goal.write_fault-requires-clause-shown
write_fault-requires-clause-shown g c =
    let sound = c.world.ensures.sound c.requires.goes_on in
    fault_shown c.args.fleet.now c.args.phone c.args.event.now c.in-Err.fault c.requires.goes_on sound.0 sound.1 c.requires.can c.in-Err.ensures.says

pub returns-in-Ok-clause-report : goal.returns-in-Ok-clause-report
unfolding event_report
returns-in-Ok-clause-report g c =
    let v = c.args.fleet.now in
    let own = length (own_at (owns_in v) c.args.phone) in
    let text = output_text (answer_output (length v.journal) own (Ok c.in-Ok.told)) in
    let line = if_ok _ (λ t. t.items ≡ text) c.told_text.result
    (λ t is. is own
    ∙ ap (λ n. output_text (answer_output n own (Ok c.in-Ok.told)))
    (c.len-step.ensures ∙ ap length c.journal.ensures.journal))
    c.told_text.ensures.text in
    let answered = sym (c.in-Ok.ensures.says (λ same. cc)) in
    one_piece c.write_text.result (λ j. answer_report (length v.journal) own (answered j)) c.requires.out_ready
    (c.write_text.ensures text line) c.and.ensures

pub returns-in-Err-clause-report : goal.returns-in-Err-clause-report
returns-in-Err-clause-report g c =
    let v = c.args.fleet.now in
    let e = c.args.event.now in
    let p = c.args.phone in
    let own = c.len-own.ensures ∙ ap length (c.journal-2.ensures ∙ ap (λ (w : Whole). w.journal) (c.world.ensures.own c.requires.goes_on)) in
    let before = g.W.Edge.told c.args.out.now in
    let after = g.W.Edge.told c.write_fault.new.out in
    subst (λ r. WritesReport (event_report v p e) r before after) (sym c.and-in-Err.ensures)
    (fault_reported v p e c.in-Err.fault c.len-step.result c.len-own.result c.write_fault.result before after
    (c.len-step.ensures ∙ ap length c.journal.ensures.journal) own c.in-Err.ensures.says c.write_fault.ensures.text
    (λ is. let m = c.write_fault.ensures.memory is in (m.0, ap g.W.Edge.told m.1))
    (λ is. c.in-Err.ensures.refused c.requires.goes_on (ap Err is)) c.requires.out_ready)

pub returns-in-Err-clause-takes : goal.returns-in-Err-clause-takes
returns-in-Err-clause-takes g c done = absurd (never_done c.write_fault.result c.and-in-Err.ensures done)
