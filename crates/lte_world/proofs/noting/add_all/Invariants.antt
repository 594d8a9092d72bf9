use Rattle.std.proofs.Common.{◌≤◌, ◌+◌, length, drop}
use Rattle.lte_world.proofs.Deriving.{AddsUpTo}
use Rattle.lte_world.proofs.noting.add_all.Given as goal

abbrev pub invariant-loop-made : goal.invariant-loop-made
invariant-loop-made l =
    (l.made-index ≤ length l.derived)
    × (length l.derived ≤ l.ladder.spare + l.made-index)
    × AddsUpTo l.fn.ladder.rows l.ladder.rows l.derived (drop l.made-index l.derived)
    × (length l.ladder.rows ≤ length l.fn.ladder.rows + l.made-index)
