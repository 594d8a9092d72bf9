use Rattle.std.proofs.Common.{ℕ, ◌<◌}
use Rattle.key_audit.specs.Local.{RowFits}
use Rattle.key_audit.proofs.checks.row_fits.Given as goal

abbrev pub invariant-loop-station : goal.invariant-loop-station
invariant-loop-station l = (s : ℕ) → s < l.station → RowFits l.ladder.rows l.audit l.k s
