use Rattle.std.proofs.Common.{sym, ap, subst, Err, length, rules, arith}
use Rattle.std.proofs.lemmas.Result.{err_from_is_err_and}
use Rattle.lte_world.specs.Whole.{run_of}
use Rattle.report_text.specs.{End.end_text, Ladder.ladder_text}
use Rattle.run_report.specs.Written.{WritesText}
use Rattle.run_report.proofs.{EndText.end_is, Partly.both_written, Partly.first_cut, Ends.end_ends, Ends.ladder_is}
use Rattle.edge_io.proofs.Ending.{is_lines, text_is}
use Rattle.run_report.proofs.reports.write_end.Goals as goal

pub overflow_cast-events : goal.overflow_cast-events
overflow_cast-events g c = let same = ap length c.journal.ensures in omega (arith, c.len-events.ensures, same, c.requires.few)

pub write_text-requires-clause-lines : goal.write_text-requires-clause-lines
write_text-requires-clause-lines g c = text_is _ _ _ c.end.ensures.text (is_lines _ (end_ends _ _ _))

pub write_text-requires-2-clause-lines : goal.write_text-requires-2-clause-lines
write_text-requires-2-clause-lines g c = text_is _ _ _ c.ladder_text.ensures.text (ladder_is _)

pub write_text-requires-2-clause-out_ready : goal.write_text-requires-2-clause-out_ready
write_text-requires-2-clause-out_ready g c =
    (c.in_ok-write_text.ensures (end_text (length c.args.world.now.journal) c.records.result (length c.ladder.result.now.rows))
    (search rules)).used.ready

pub returns : goal.returns
returns g c =
    let v = c.args.world.now in
    let rows = c.ladder.result.now.rows in
    let first = end_text (length v.journal) c.records.result (length rows) in
    subst (λ t. WritesText t c.write_text-2.result (g.W.Edge.told c.args.out.now) (g.W.Edge.told c.write_text-2.new.out))
    (sym (end_is (length v.journal) c.records.result rows (run_of v) c.requires.goes_on c.ladder.ensures c.records.ensures))
    (both_written c.write_text-2.result first (ladder_text rows) c.requires.out_ready
    (c.in_ok-write_text.ensures first (search rules)) (c.write_text-2.ensures (ladder_text rows) (search rules)))

pub returns-in_err-write_text : goal.returns-in_err-write_text
returns-in_err-write_text g c =
    let p = err_from_is_err_and c.from_residual.result c.from_residual.ensures.1 in
    let v = c.args.world.now in
    let rows = c.ladder.result.now.rows in
    let first = end_text (length v.journal) c.records.result (length rows) in
    rw (p.1, p.2)
    (subst (λ t. WritesText {A = Unit {0}} t (Err c.in_err-write_text.field-0.0) (g.W.Edge.told c.args.out.now) (g.W.Edge.told c.write_text.new.out))
    (sym (end_is (length v.journal) c.records.result rows (run_of v) c.requires.goes_on c.ladder.ensures c.records.ensures))
    (first_cut first (ladder_text rows) c.requires.out_ready (c.in_err-write_text.ensures first (search rules))))
