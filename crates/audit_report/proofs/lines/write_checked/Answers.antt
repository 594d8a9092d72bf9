use Rattle.std.proofs.{Common.◌++◌, Common.length, lemmas.Result.err_from_is_err_and}
use Rattle.key_audit.specs.Local.{exact_mark}
use Rattle.key_audit.specs.Text.{first_line, row_lines, last_line}
use Rattle.run_report.proofs.Partly.{both_written, first_cut}
use Rattle.edge_io.proofs.Ending.{is_lines, text_is}
use Rattle.audit_report.proofs.Ends.{first_ends}
use Rattle.audit_report.proofs.lines.write_checked.Goals as goal

pub write_text-requires-clause-lines : goal.write_text-requires-clause-lines
write_text-requires-clause-lines g c = text_is _ _ _ c.first_line.ensures.text (is_lines _ (first_ends _))

pub returns : goal.returns
returns g c =
    let rows = c.args.ladder.now.rows in
    both_written c.write_rest.result (first_line (length rows))
    (row_lines rows (exact_mark rows) 0 (length rows) ++ last_line) c.requires.out_ready
    (c.in_ok-write_text.ensures _ c.first_line.ensures.text) c.write_rest.ensures

pub returns-in_err-write_text : goal.returns-in_err-write_text
returns-in_err-write_text g c =
    let p = err_from_is_err_and c.from_residual.result c.from_residual.ensures.1 in
    let rows = c.args.ladder.now.rows in
    rw (p.1, p.2)
    (first_cut (first_line (length rows)) (row_lines rows (exact_mark rows) 0 (length rows) ++ last_line)
    c.requires.out_ready (c.in_err-write_text.ensures _ c.first_line.ensures.text))

pub write_rest-requires-clause-out_ready : goal.write_rest-requires-clause-out_ready
write_rest-requires-clause-out_ready g c = (c.in_ok-write_text.ensures _ c.first_line.ensures.text).used.ready
