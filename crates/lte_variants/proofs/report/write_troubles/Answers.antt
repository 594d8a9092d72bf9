use Rattle.std.proofs.lemmas.Result.{err_from_is_err_and}
use Rattle.std.specs.String.{string_bytes}
use Rattle.edge_io.proofs.Ending.{text_is}
use Rattle.run_report.proofs.Partly.{cut_written, more_written}
use Rattle.variant_text.specs.Lines.{trouble_line}
use Rattle.lte_variants.proofs.Ends.{trouble_is}
use Rattle.lte_variants.proofs.Telling.{each_more}
use Rattle.lte_variants.proofs.report.write_troubles.Goals as goal

pub write_string-requires-clause-lines : goal.write_string-requires-clause-lines
write_string-requires-clause-lines g c = text_is string_bytes _ _ c.trouble_line.ensures.text (trouble_is _ _)

pub loop-trouble-preserved : goal.loop-trouble-preserved
loop-trouble-preserved g c =
    more_written c.loop-trouble.invariant
    (each_more (trouble_line c.args.steps) c.args.troubles.now c.loop-trouble.trouble-index _ c.loop-trouble-test.true)
    (c.in_ok-write_string.ensures _ c.trouble_line.ensures.text)

pub returns-in_err-write_string : goal.returns-in_err-write_string
returns-in_err-write_string g c =
    let p = err_from_is_err_and c.from_residual.result c.from_residual.ensures.1 in
    rw (p.1, p.2)
    (cut_written c.loop-trouble.invariant
    (each_more (trouble_line c.args.steps) c.args.troubles.now c.loop-trouble.trouble-index _ c.loop-trouble-test.true)
    (c.in_err-write_string.ensures _ c.trouble_line.ensures.text))
