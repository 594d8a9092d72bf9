use Rattle.std.proofs.Common.{◌≡◌, ◌≤◌, length, take, drop, map}
use Rattle.lte_world.specs.Networks.{HasRows, HoldsAll}
use Rattle.lte_world.proofs.noting.hold_all.Given as goal

abbrev pub invariant-loop-made : goal.invariant-loop-made
invariant-loop-made l =
    (l.made-index ≤ length l.derived) × (l.ladder.spare ≡ l.fn.ladder.spare)
    × HoldsAll l.who (map (λ d. d.out) (take l.made-index l.derived)) l.fn.ladder.rows l.ladder.rows
    × HasRows l.ladder.rows (drop l.made-index l.derived)
    × (length l.ladder.rows ≡ length l.fn.ladder.rows)
