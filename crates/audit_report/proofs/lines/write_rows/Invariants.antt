use Rattle.std.proofs.Common.{◌-◌, length}
use Rattle.key_audit.specs.{Local.exact_mark, Text.row_lines}
use Rattle.run_report.proofs.Partly.{Partly}
use Rattle.audit_report.proofs.lines.write_rows.Given as goal

abbrev pub invariant-loop-k : goal.invariant-loop-k
invariant-loop-k g l =
    Partly (row_lines l.ladder.rows (exact_mark l.ladder.rows) 0 (length l.ladder.rows))
    (row_lines l.ladder.rows (exact_mark l.ladder.rows) l.k (length l.ladder.rows - l.k))
    (g.W.Edge.told l.initial.out) (g.W.Edge.told l.out)
