use Rattle.std.proofs.Common.{ap, subst, ◌∙◌, length}
use Rattle.std.proofs.lemmas.Result.{err_from_is_err_and}
use Rattle.key_audit.specs.{Local.exact_mark, Text.row_lines, Text.last_line}
use Rattle.run_report.specs.Written.{WritesText}
use Rattle.run_report.proofs.Partly.{both_written, first_cut}
use Rattle.edge_io.specs.Lines.{are_lines}
use Rattle.edge_io.proofs.Ending.{is_lines}
use Rattle.audit_report.proofs.Ends.{last_ends}
use Rattle.audit_report.proofs.lines.write_rest.Goals as goal

pub write_lines-requires-clause-lines : goal.write_lines-requires-clause-lines
write_lines-requires-clause-lines g c = ap are_lines c.last_line.ensures ∙ is_lines _ last_ends

pub returns : goal.returns
returns g c =
    let rows = c.args.ladder.now.rows in
    both_written c.write_lines.result (row_lines rows (exact_mark rows) 0 (length rows)) last_line c.requires.out_ready c.in_ok-write_rows.ensures
    (subst (λ octets. WritesText octets c.write_lines.result (g.W.Edge.told c.write_rows.new.out)
    (g.W.Edge.told c.write_lines.new.out))
    c.last_line.ensures c.write_lines.ensures)

pub returns-in_err-write_rows : goal.returns-in_err-write_rows
returns-in_err-write_rows g c =
    let p = err_from_is_err_and c.from_residual.result c.from_residual.ensures.1 in
    let rows = c.args.ladder.now.rows in
    rw (p.1, p.2)
    (first_cut (row_lines rows (exact_mark rows) 0 (length rows)) last_line c.requires.out_ready c.in_err-write_rows.ensures)
