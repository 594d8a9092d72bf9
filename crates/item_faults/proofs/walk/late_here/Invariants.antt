use Rattle.std.proofs.Common.{◌≡◌, [], drop}
use Rattle.item_faults.specs.Walk.{late_from}
use Rattle.item_faults.proofs.walk.late_here.Given as goal

abbrev pub invariant-loop-e : goal.invariant-loop-e
invariant-loop-e l =
    late_from l.message [] l.initial.faults.items l.here ≡ late_from l.message l.moved.items l.faults.items (drop l.e-index l.here)
