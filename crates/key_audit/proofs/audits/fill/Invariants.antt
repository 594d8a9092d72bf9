use Rattle.std.proofs.Common.{◌≤◌, length}
use Rattle.key_audit.proofs.Filling.{Filled}
use Rattle.key_audit.proofs.audits.fill.Given as goal

abbrev pub invariant-loop-k : goal.invariant-loop-k
invariant-loop-k l = Filled l.ladder.rows l.rows.items l.k × (l.k ≤ length l.ladder.rows)
