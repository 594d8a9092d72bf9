use Rattle.std.proofs.Common.{◌≡◌, take}
use Rattle.variant_runs.proofs.originals.copied.Given as goal

abbrev pub invariant-loop-number : goal.invariant-loop-number
invariant-loop-number l = l.list.items ≡ take l.number l.events.items
