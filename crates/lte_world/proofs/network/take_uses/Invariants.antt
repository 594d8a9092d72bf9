use Rattle.std.proofs.Common.{◌≡◌, ◌≤◌, ◌+◌, ◌++◌, length, take}
use Rattle.lte_world.proofs.network.take_uses.Given as goal

abbrev pub invariant-loop-taken : goal.invariant-loop-taken
invariant-loop-taken l =
    (l.taken-index ≤ length l.used)
    × (length l.used ≤ l.uses.spare + l.taken-index)
    × (l.uses.items ≡ l.fn.uses.items ++ take l.taken-index l.used)
