use Rattle.std.proofs.Common.{◌≡◌, drop}
use Rattle.trace_plain.specs.Sights as by
use Rattle.trace_plain.proofs.taps.has_tap.Given as goal

abbrev pub invariant-loop-other : goal.invariant-loop-other
invariant-loop-other l = by.has_tap (drop l.other-index l.covered) l.at ≡ by.has_tap l.covered l.at
