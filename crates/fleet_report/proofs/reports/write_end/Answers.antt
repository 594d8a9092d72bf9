use Rattle.std.proofs.Common.{◌≡◌, sym, ap, subst, ◌∙◌, Err, length, arith}
use Rattle.std.proofs.lemmas.Result.{err_from_is_err_and}
use Rattle.lte_world.specs.Whole.{run_of}
use Rattle.report_text.specs.End.{end_text}
use Rattle.run_report.specs.Written.{WritesText}
use Rattle.run_report.proofs.{Partly.both_written, Partly.first_cut, Ends.end_ends}
use Rattle.fleet_report.specs.Lines.{texts, phone_text, row_outputs}
use Rattle.fleet_report.proofs.ReportByPiece.{end_is, if_ok}
use Rattle.edge_io.specs.Lines.{EndsLine}
use Rattle.fleet_report.proofs.reports.write_end.Goals as goal

pub overflow_cast-events : goal.overflow_cast-events
overflow_cast-events g c = let same = ap length c.journal.ensures in omega (arith, c.len-events.ensures, same, c.requires.few)

pub write_line-requires-clause-ends : goal.write_line-requires-clause-ends
write_line-requires-clause-ends g c = if_ok _ (λ t. EndsLine t.items) c.end.result (λ t is. subst EndsLine (sym is) (end_ends _ _ _)) c.end.ensures.text

pub write_rows-requires : goal.write_rows-requires
write_rows-requires g c =
    let line = if_ok _ (λ t.
    t.items ≡ end_text (length c.args.world.now.journal) c.records.result (length c.ladder-ladder.result.now.rows))
    c.end.result (λ t e. e
    ∙ (λ j.
    end_text ((c.len-events.ensures ∙ ap length c.journal.ensures) j) c.records.result (c.len-rows.ensures.len j)))
    c.end.ensures.text in
    (c.in_ok-write_line.ensures _ line).used.ready

pub returns : goal.returns
returns g c =
    let v = c.args.world.now in
    let p = c.args.phone in
    let rows = c.ladder-ladder.result.now.rows in
    let first = end_text (length v.journal) c.records.result (length rows) in
    let line = if_ok _ (λ t. t.items ≡ first) c.end.result
    (λ t e. e
    ∙ (λ j.
    end_text ((c.len-events.ensures ∙ ap length c.journal.ensures) j) c.records.result (c.len-rows.ensures.len j)))
    c.end.ensures.text in
    subst (λ t. WritesText t c.write_rows.result (g.W.Edge.told c.args.out.now) (g.W.Edge.told c.write_rows.new.out))
    (sym (end_is p (length v.journal) c.records.result rows (run_of v) c.requires.goes_on c.ladder-ladder.ensures c.records.ensures))
    (both_written c.write_rows.result (phone_text p first) (texts (row_outputs p rows 0 rows)) c.requires.out_ready
    (c.in_ok-write_line.ensures first line) c.write_rows.ensures)

pub returns-in_err-write_line : goal.returns-in_err-write_line
returns-in_err-write_line g c =
    let v = c.args.world.now in
    let p = c.args.phone in
    let rows = c.ladder-ladder.result.now.rows in
    let first = end_text (length v.journal) c.records.result (length rows) in
    let line = if_ok _ (λ t. t.items ≡ first) c.end.result
    (λ t e. e
    ∙ (λ j.
    end_text ((c.len-events.ensures ∙ ap length c.journal.ensures) j) c.records.result (c.len-rows.ensures.len j)))
    c.end.ensures.text in
    let out = err_from_is_err_and c.from_residual.result c.from_residual.ensures.1 in
    rw (out.1, out.2)
    (subst (λ t. WritesText {A = Unit {0}} t (Err c.in_err-write_line.field-0.0) (g.W.Edge.told c.args.out.now) (g.W.Edge.told c.write_line.new.out))
    (sym (end_is p (length v.journal) c.records.result rows (run_of v) c.requires.goes_on c.ladder-ladder.ensures c.records.ensures))
    (first_cut (phone_text p first) (texts (row_outputs p rows 0 rows)) c.requires.out_ready (c.in_err-write_line.ensures first line)))
