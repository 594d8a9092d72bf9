use Rattle.std.proofs.Common.{◌≡◌}
use Rattle.key_tests.proofs.texts.tally_of.Given as goal

abbrev pub invariant-loop-line : goal.invariant-loop-line
invariant-loop-line l = l.tally.steps ≡ l.line-index
