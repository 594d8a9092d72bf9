use Rattle.std.proofs.Common.{sym, ap, subst, ◌∙◌, Err, length}
use Rattle.lte_world.specs.Whole.{run_of}
use Rattle.edge_io.proofs.Ending.{is_lines, text_is}
use Rattle.run_report.specs.{Counted.Tells, Events.told_of, Events.told_report}
use Rattle.run_report.proofs.{Ends.line_ends, Partly.one_piece, Partly.never_done}
use Rattle.run_report.proofs.ReportByEvent.{a_line, a_coincidence, can_show}
use Rattle.run_report.proofs.reports.write_event.Goals as goal

pub write_text-requires-clause-lines : goal.write_text-requires-clause-lines
write_text-requires-clause-lines g c = text_is _ _ _ c.line.ensures.text (is_lines _ (line_ends _))

pub returns-in-Ok-clause-report : goal.returns-in-Ok-clause-report
returns-in-Ok-clause-report g c =
    let told = told_of (run_of c.args.world.now) c.args.event.now in
    one_piece c.write_text.result (a_line told c.in-Ok.told (length c.args.world.now.journal) c.in-Ok.ensures.tells)
    c.requires.out_ready (c.write_text.ensures _ c.line.ensures.text) c.and.ensures

pub write_coincidence-requires-clause-string : goal.write_coincidence-requires-clause-string
write_coincidence-requires-clause-string g c =
    let told = told_of (run_of c.args.world.now) c.args.event.now in
    can_show told c.in-Err-Chance.proof (subst (λ f. Tells told (Err f)) c.in-Err-Chance.field-0-is c.in-Err-Chance.ensures.tells)

pub returns-in-Err-Chance-clause-report : goal.returns-in-Err-Chance-clause-report
returns-in-Err-Chance-clause-report g c =
    let told = told_of (run_of c.args.world.now) c.args.event.now in
    let tells = subst (λ f. Tells told (Err f)) c.in-Err-Chance.field-0-is c.in-Err-Chance.ensures.tells in
    one_piece c.write_coincidence.result
    (ap (λ step. told_report step told) (sym (c.len-step.ensures ∙ ap length c.journal.ensures))
    ∙ a_coincidence told c.in-Err-Chance.proof c.len-step.result tells)
    c.requires.out_ready c.write_coincidence.ensures c.and-in-Err-Chance.ensures

pub returns-in-Err-Chance-clause-takes : goal.returns-in-Err-Chance-clause-takes
returns-in-Err-Chance-clause-takes g c done = absurd (never_done c.write_coincidence.result c.and-in-Err-Chance.ensures done)
