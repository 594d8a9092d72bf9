use Rattle.std.proofs.Common.{◌≡◌, ◌<◌, sym, subst, [], length, get_or, arith}
use Rattle.std.specs.Prelude.{slice_get, Some}
use Rattle.std.proofs.{lemmas.Option.slice_get-get_or, lemmas.Result.err_from_is_err_and}
use Rattle.key_terms.specs.{declared.row.Origin.Origin, Ladder.unheld}
use Rattle.report_text.specs.Ladder.{row_text}
use Rattle.fleet_report.specs.Lines.{texts, row_outputs}
use Rattle.fleet_report.proofs.ReportByPiece.{row_next, rows_past, if_ok}
use Rattle.edge_io.specs.Lines.{EndsLine}
use Rattle.run_report.proofs.Ends.{row_ends}
use Rattle.run_report.proofs.Partly.{none_written, more_written, cut_written, all_written}
use Rattle.fleet_report.proofs.reports.write_rows.Goals as goal

pub loop-number-init : goal.loop-number-init
loop-number-init g c = none_written (texts (row_outputs c.args.phone c.args.ladder.now.rows 0 c.args.ladder.now.rows)) (g.W.Edge.told c.args.out.now) c.requires

pub write_line-requires-clause-ready : goal.write_line-requires-clause-ready
write_line-requires-clause-ready g c = c.loop-number.invariant.used.ready

pub loop-number-preserved : goal.loop-number-preserved
loop-number-preserved g c =
    let rows = c.args.ladder.now.rows in
    let k = c.loop-number.number in
    let below : k < length rows = omega (arith, c.loop-number-test.true, c.len-number-end.ensures.len) in
    let r = get_or rows k (unheld Origin.Root []) in
    let at : slice_get rows k ≡ Some r = slice_get-get_or rows k (unheld Origin.Root []) below in
    let line = if_ok _ (λ t. t.items ≡ row_text rows k r) c.row_line.result (λ t is. is r at) c.row_line.ensures.text in
    more_written c.loop-number.invariant (row_next c.args.phone rows k r at) (c.in_ok-write_line.ensures (row_text rows k r) line)

pub returns-in_err-write_line : goal.returns-in_err-write_line
returns-in_err-write_line g c =
    let rows = c.args.ladder.now.rows in
    let k = c.loop-number.number in
    let below : k < length rows = omega (arith, c.loop-number-test.true, c.len-number-end.ensures.len) in
    let r = get_or rows k (unheld Origin.Root []) in
    let at : slice_get rows k ≡ Some r = slice_get-get_or rows k (unheld Origin.Root []) below in
    let line = if_ok _ (λ t. t.items ≡ row_text rows k r) c.row_line.result (λ t is. is r at) c.row_line.ensures.text in
    let p = err_from_is_err_and c.from_residual.result c.from_residual.ensures.1 in
    rw (p.1, p.2)
    (cut_written c.loop-number.invariant (row_next c.args.phone rows k r at) (c.in_err-write_line.ensures (row_text rows k r) line))

pub returns : goal.returns
returns g c =
    let rows = c.args.ladder.now.rows in
    all_written c.loop-number.invariant (rows_past c.args.phone rows c.loop-number.number
    (omega (arith, c.loop-number-test.false, c.len-number-end.ensures.len)))

pub write_line-requires-clause-ends : goal.write_line-requires-clause-ends
write_line-requires-clause-ends g c =
    let rows = c.args.ladder.now.rows in
    let k = c.loop-number.number in
    let below : k < length rows = omega (arith, c.loop-number-test.true, c.len-number-end.ensures.len) in
    let r = get_or rows k (unheld Origin.Root []) in
    let at : slice_get rows k ≡ Some r = slice_get-get_or rows k (unheld Origin.Root []) below in
    if_ok _ (λ t. EndsLine t.items) c.row_line.result (λ t is. subst EndsLine (sym (is r at)) (row_ends rows k r)) c.row_line.ensures.text
