use Rattle.std.proofs.Common.{◌≡◌, ◌++◌, drop}
use Rattle.key_audit.specs.Text.{further}
use Rattle.key_audit.proofs.paths.add_further.Given as goal

abbrev pub invariant-loop-row : goal.invariant-loop-row
invariant-loop-row l = l.text.items ++ further (drop l.row-index l.path) ≡ l.initial.text.items ++ further l.path
