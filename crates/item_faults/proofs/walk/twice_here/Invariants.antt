use Rattle.std.proofs.Common.{◌≡◌, drop}
use Rattle.item_faults.specs.Walk.{twice_from}
use Rattle.item_faults.proofs.walk.twice_here.Given as goal

abbrev pub invariant-loop-e : goal.invariant-loop-e
invariant-loop-e l = twice_from l.message l.initial.faults.items l.here ≡ twice_from l.message l.faults.items (drop l.e-index l.here)
