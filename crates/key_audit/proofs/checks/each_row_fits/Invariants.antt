use Rattle.std.proofs.Common.{◌≤◌, length}
use Rattle.key_audit.specs.Local.{FitBelow}
use Rattle.key_audit.proofs.checks.each_row_fits.Given as goal

abbrev pub invariant-loop-k : goal.invariant-loop-k
invariant-loop-k l = FitBelow l.ladder.rows l.audit l.k × (l.k ≤ length l.ladder.rows)
