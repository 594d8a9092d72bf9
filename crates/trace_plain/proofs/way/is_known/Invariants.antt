use Rattle.std.proofs.Common.{◌≡◌, drop}
use Rattle.trace_keys.specs.Same.{same_net}
use Rattle.trace_plain.specs.Way as by
use Rattle.trace_plain.proofs.way.is_known.Given as goal

abbrev pub invariant-loop-step : goal.invariant-loop-step
invariant-loop-step l = by.is_known same_net (drop l.step-index l.steps) l.net l.unseen ≡ by.is_known same_net l.steps l.net l.unseen
