use Rattle.std.proofs.Common.{◌≡◌}
use Rattle.eia1.specs.Eia1.{evaluated}
use Rattle.eia1.proofs.evaluation.evaluated.Given as goal

abbrev pub invariant-loop-i : goal.invariant-loop-i
invariant-loop-i l = l.value ≡ evaluated l.text l.p l.i
