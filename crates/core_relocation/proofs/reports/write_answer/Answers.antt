use Rattle.std.proofs.Common.{sym, ap, ◌∙◌, Err, length}
use Rattle.run_report.proofs.{Partly.one_piece, Partly.never_done, CoincidenceHasString.shown_in}
use Rattle.core_relocation.specs.Report.{answer_report}
use Rattle.lte_world.specs.Whole.{told_of}
use Rattle.core_relocation.specs.Holder.{acting, away, station_in}
use Rattle.core_relocation.proofs.{Applied.coincidence_told, Ends.two_ends}
use Rattle.edge_io.proofs.Ending.{is_lines, text_is}
use Rattle.core_relocation.proofs.reports.write_answer.Goals as goal

pub write_coincidence-requires-clause-string : goal.write_coincidence-requires-clause-string
write_coincidence-requires-clause-string g c =
    let v = c.args.two.now in
    let e = c.args.event.now in
    shown_in v.world e c.in-Err-Chance.proof c.apply.ensures.ranges.0 c.apply.ensures.ranges.1 c.requires.runs c.requires.can.can.0
    (coincidence_told (away v.cores (station_in v.senders e) e) (acting v.cores (station_in v.senders e))
    (length v.events) (told_of v.world e) c.in-Err-Chance.field-0 c.in-Err-Chance.proof
    c.in-Err-Chance.field-0-is c.in-Err-Chance.ensures.says)

pub write_text-requires-clause-lines : goal.write_text-requires-clause-lines
write_text-requires-clause-lines g c = text_is _ _ _ c.two_text.ensures.text (is_lines _ (two_ends c.len-step.result c.in-Ok.line))

pub returns-in-Ok-clause-report : goal.returns-in-Ok-clause-report
returns-in-Ok-clause-report g c =
    one_piece c.write_text.result
    (λ j. answer_report (sym (c.len-step.ensures ∙ ap length c.events.ensures) j)
    (sym (c.in-Ok.ensures.written c.requires.runs (λ same. cc)) j))
    c.requires.out_ready (c.write_text.ensures _ c.two_text.ensures.text) c.and.ensures

pub returns-in-Err-Chance-clause-report : goal.returns-in-Err-Chance-clause-report
returns-in-Err-Chance-clause-report g c =
    let told = ap Err (sym c.in-Err-Chance.field-0-is) ∙ c.in-Err-Chance.ensures.written c.requires.runs (λ same. cc) in
    one_piece c.write_coincidence.result
    (λ j. answer_report (sym (c.len-step.ensures ∙ ap length c.events.ensures) j) (sym told j))
    c.requires.out_ready c.write_coincidence.ensures c.and-in-Err-Chance.ensures

pub returns-in-Err-Chance-clause-takes : goal.returns-in-Err-Chance-clause-takes
returns-in-Err-Chance-clause-takes g c done = absurd (never_done c.write_coincidence.result c.and-in-Err-Chance.ensures done)
