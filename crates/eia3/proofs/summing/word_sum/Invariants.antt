use Rattle.std.proofs.Common.{◌≡◌}
use Rattle.eia3.specs.Words.{word_sum}
use Rattle.eia3.proofs.summing.word_sum.Given as goal

abbrev pub invariant-loop-i : goal.invariant-loop-i
invariant-loop-i l = l.sum ≡ word_sum l.m l.high l.low l.i
