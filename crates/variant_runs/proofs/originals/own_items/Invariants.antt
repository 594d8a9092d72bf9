use Rattle.std.proofs.Common.{◌≡◌}
use Rattle.variant_runs.specs.Original.{own_items}
use Rattle.variant_runs.proofs.originals.own_items.Given as goal

abbrev pub invariant-loop-step : goal.invariant-loop-step
invariant-loop-step l = l.list.items ≡ own_items l.step
