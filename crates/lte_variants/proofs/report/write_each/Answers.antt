use Rattle.std.proofs.lemmas.Result.{err_from_is_err_and}
use Rattle.run_report.proofs.Partly.{cut_written, more_written}
use Rattle.lte_variants.specs.Report.{line_at}
use Rattle.lte_variants.proofs.Telling.{each_more}
use Rattle.lte_variants.proofs.report.write_each.Goals as goal

pub loop-message-preserved : goal.loop-message-preserved
loop-message-preserved g c =
    more_written c.loop-message.invariant
    (each_more (line_at c.args.steps.now) c.args.messages.now c.loop-message.message-index _ c.loop-message-test.true)
    c.in_ok-write_message.ensures

pub returns-in_err-write_message : goal.returns-in_err-write_message
returns-in_err-write_message g c =
    let p = err_from_is_err_and c.from_residual.result c.from_residual.ensures.1 in
    rw (p.1, p.2)
    (cut_written c.loop-message.invariant
    (each_more (line_at c.args.steps.now) c.args.messages.now c.loop-message.message-index _ c.loop-message-test.true)
    c.in_err-write_message.ensures)
