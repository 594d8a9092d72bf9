use Rattle.std.proofs.Common.{◌≡◌, drop}
use Rattle.trace_order.specs.Reach as by
use Rattle.trace_order.proofs.reach.all_steps.Given as goal

abbrev pub invariant-loop-by_move : goal.invariant-loop-by_move
invariant-loop-by_move l = by.all_steps l.covered (drop l.by_move-index l.family) ≡ by.all_steps l.covered l.family
