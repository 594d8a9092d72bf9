use Rattle.std.proofs.Common.{◌≡◌}
use Rattle.variant_runs.specs.Troubles.{lost_before}
use Rattle.variant_runs.proofs.troubles.add_lost.Given as goal

abbrev pub invariant-loop-number : goal.invariant-loop-number
invariant-loop-number l = l.list.items ≡ lost_before l.told l.acts.items l.steps l.initial.list.items l.number
