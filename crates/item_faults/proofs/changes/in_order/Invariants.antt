use Rattle.std.proofs.Common.{◌≡◌, drop}
use Rattle.item_faults.specs.Changes.{in_order}
use Rattle.item_faults.proofs.changes.in_order.Given as goal

abbrev pub invariant-loop-i : goal.invariant-loop-i
invariant-loop-i l = in_order l.entries ≡ in_order (drop l.i l.entries)
