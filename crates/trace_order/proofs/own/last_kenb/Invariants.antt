use Rattle.std.proofs.Common.{◌≡◌, None, drop}
use Rattle.trace_order.specs.Base as by
use Rattle.trace_order.proofs.own.last_kenb.Given as goal

abbrev pub invariant-loop-sight : goal.invariant-loop-sight
invariant-loop-sight l = by.last_kenb l.kenb (drop l.sight-index l.capture) ≡ by.last_kenb None l.capture
