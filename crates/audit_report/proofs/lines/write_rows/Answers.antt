use Rattle.std.proofs.Common.{◌≡◌, ◌-◌, ap, subst, length, arith}
use Rattle.std.proofs.lemmas.Result.{err_from_is_err_and}
use Rattle.key_audit.specs.{Local.exact_mark, Text.row_lines}
use Rattle.run_report.proofs.Partly.{Partly, none_written, more_written, cut_written, all_written}
use Rattle.audit_report.proofs.{Growing.row_more, Ends.row_ends}
use Rattle.edge_io.proofs.Ending.{is_lines, text_is}
use Rattle.audit_report.proofs.lines.write_rows.Goals as goal

pub loop-k-init : goal.loop-k-init
loop-k-init g c =
    let rows = c.args.ladder.now.rows in
    let out = g.W.Edge.told c.args.out.now in
    let whole = row_lines rows (exact_mark rows) 0 (length rows) in
    let all : length rows ≡ length rows - 0 = omega arith in
    subst (λ n. Partly whole (row_lines rows (exact_mark rows) 0 n) out out) all (none_written whole out c.requires.out_ready)

pub write_text-requires-clause-out_ready : goal.write_text-requires-clause-out_ready
write_text-requires-clause-out_ready g c = c.loop-k.invariant.used.ready

pub write_text-requires-clause-lines : goal.write_text-requires-clause-lines
write_text-requires-clause-lines g c =
    text_is _ _ _ c.row_line.ensures.text
    (is_lines _ (row_ends c.args.ladder.now.rows (exact_mark c.args.ladder.now.rows) c.loop-k.k))

pub loop-k-preserved : goal.loop-k-preserved
loop-k-preserved g c =
    let rows = c.args.ladder.now.rows in
    more_written c.loop-k.invariant
    (row_more rows (exact_mark rows) c.loop-k.k (length rows)
    (omega (arith, c.loop-k-test.true, c.len-k-end.ensures.len)))
    (c.in_ok-write_text.ensures _ c.row_line.ensures.text)

pub returns-in_err-write_text : goal.returns-in_err-write_text
returns-in_err-write_text g c =
    let p = err_from_is_err_and c.from_residual.result c.from_residual.ensures.1 in
    let rows = c.args.ladder.now.rows in
    rw (p.1, p.2)
    (cut_written c.loop-k.invariant
    (row_more rows (exact_mark rows) c.loop-k.k (length rows)
    (omega (arith, c.loop-k-test.true, c.len-k-end.ensures.len)))
    (c.in_err-write_text.ensures _ c.row_line.ensures.text))

pub returns : goal.returns
returns g c =
    let rows = c.args.ladder.now.rows in
    let none : length rows - c.loop-k.k ≡ 0 = omega (arith, c.loop-k-test.false, c.len-k-end.ensures.len) in
    all_written c.loop-k.invariant (ap (row_lines rows (exact_mark rows) c.loop-k.k) none)
