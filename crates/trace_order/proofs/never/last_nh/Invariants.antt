use Rattle.std.proofs.Common.{◌≡◌, None, drop}
use Rattle.trace_order.specs.Order as order
use Rattle.trace_order.proofs.never.last_nh.Given as goal

abbrev pub invariant-loop-sight : goal.invariant-loop-sight
invariant-loop-sight l = order.last_nh l.last (drop l.sight-index l.capture) ≡ order.last_nh None l.capture
