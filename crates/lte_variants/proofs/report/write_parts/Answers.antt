use Rattle.std.proofs.lemmas.Result.{err_from_is_err_and}
use Rattle.run_report.proofs.Partly.{both_written, first_cut}
use Rattle.lte_variants.specs.Report.{asked, messages_told, told_of}
use Rattle.lte_variants.proofs.report.write_parts.Goals as goal

pub returns : goal.returns
returns g c =
    let o = c.args.study.now in
    let messages = c.args.messages.now in
    both_written c.write_variants.result (messages_told o messages) (told_of c.args.request.now.sent o (asked c.args.request.now o messages)) c.requires.out_ready
    c.in_ok-write_messages.ensures c.write_variants.ensures

pub returns-in_err-write_messages : goal.returns-in_err-write_messages
returns-in_err-write_messages g c =
    let p = err_from_is_err_and c.from_residual.result c.from_residual.ensures.1 in
    let o = c.args.study.now in
    let messages = c.args.messages.now in
    rw (p.1, p.2)
    (first_cut (messages_told o messages) (told_of c.args.request.now.sent o (asked c.args.request.now o messages)) c.requires.out_ready c.in_err-write_messages.ensures)
