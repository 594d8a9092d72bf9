use Rattle.std.proofs.Common.{◌≡◌}
use Rattle.eia1.specs.Rows.{sum_of}
use Rattle.eia1.proofs.rows.sum_of.Given as goal

abbrev pub invariant-loop-j : goal.invariant-loop-j
invariant-loop-j l = l.sum ≡ sum_of l.rows l.v l.j
