use Rattle.std.proofs.Common.{◌≡◌, drop}
use Rattle.trace_order.specs.Known as by
use Rattle.trace_order.proofs.never.all_seen.Given as goal

abbrev pub invariant-loop-by_move : goal.invariant-loop-by_move
invariant-loop-by_move l = by.all_seen l.covered (drop l.by_move-index l.family) ≡ by.all_seen l.covered l.family
