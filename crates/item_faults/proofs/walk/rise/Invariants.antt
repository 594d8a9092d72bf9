use Rattle.std.proofs.Common.{◌≡◌, drop}
use Rattle.item_faults.specs.Walk.{rise_from}
use Rattle.item_faults.proofs.walk.rise.Given as goal

abbrev pub invariant-loop-e : goal.invariant-loop-e
invariant-loop-e l = rise_from 0 l.entries ≡ rise_from l.least (drop l.e-index l.entries)
