use Rattle.std.proofs.Common.{◌≡◌, drop}
use Rattle.trace_order.specs.Reach as by
use Rattle.trace_order.proofs.reach.steps_since.Given as goal

abbrev pub invariant-loop-sight : goal.invariant-loop-sight
invariant-loop-sight l = by.steps_from l.steps (drop l.sight-index l.capture) ≡ by.steps_from 0 l.capture
