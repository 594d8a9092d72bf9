use Rattle.std.proofs.Common.{◌≡◌, subst, IfOk}
use Rattle.std.proofs.lemmas.Result.{err_from_is_err_and}
use Rattle.std.specs.String.{string_bytes}
use Rattle.edge_io.proofs.Ending.{text_is}
use Rattle.run_report.proofs.Partly.{both_written, first_cut}
use Rattle.variant_text.specs.Lines.{end_line}
use Rattle.lte_variants.specs.Report.{variant_lines, variants}
use Rattle.lte_variants.proofs.Ends.{end_is}
use Rattle.lte_variants.proofs.report.write_told.Goals as goal

pub write_string-requires-clause-lines : goal.write_string-requires-clause-lines
write_string-requires-clause-lines g c = text_is string_bytes _ _ c.end_line.ensures.text (end_is _)

pub returns : goal.returns
returns g c =
    let o = c.args.study.now in
    let text = subst (λ n. IfOk c.end_line.result (λ t. string_bytes t ≡ end_line n)) c.in_ok-count.ensures.count c.end_line.ensures.text in
    both_written c.write_string.result (variant_lines c.args.sent o c.args.choices) (end_line (variants o c.args.choices)) c.requires.out_ready
    c.in_ok-count.ensures.text (c.write_string.ensures (end_line (variants o c.args.choices)) text)

pub returns-in_err-count : goal.returns-in_err-count
returns-in_err-count g c =
    let p = err_from_is_err_and c.from_residual.result c.from_residual.ensures.1 in
    let o = c.args.study.now in
    rw (p.1, p.2)
    (first_cut (variant_lines c.args.sent o c.args.choices) (end_line (variants o c.args.choices)) c.requires.out_ready c.in_err-count.ensures.text)
