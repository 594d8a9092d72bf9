use Rattle.std.proofs.Common.{◌≡◌, [], take, drop}
use Rattle.item_outcomes.specs.Keys.{parted_from}
use Rattle.item_outcomes.proofs.keys.parted.Given as goal

abbrev pub invariant-loop-i : goal.invariant-loop-i
invariant-loop-i l = parted_from [] l.told [] ≡ parted_from (take l.i l.told) (drop l.i l.told) l.found.items
