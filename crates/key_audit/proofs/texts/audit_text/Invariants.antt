use Rattle.std.proofs.Common.{◌≡◌, ◌++◌, ◌-◌, ◌≤◌, length}
use Rattle.key_audit.specs.{Local.exact_mark, Text.row_lines, Text.first_line}
use Rattle.key_audit.proofs.texts.audit_text.Given as goal

abbrev pub invariant-loop-k : goal.invariant-loop-k
invariant-loop-k l =
    (l.text.items ++ row_lines l.ladder.rows (exact_mark l.ladder.rows) l.k (length l.ladder.rows - l.k)
    ≡ first_line (length l.ladder.rows)
    ++ row_lines l.ladder.rows (exact_mark l.ladder.rows) 0 (length l.ladder.rows))
    × (l.k ≤ length l.ladder.rows)
