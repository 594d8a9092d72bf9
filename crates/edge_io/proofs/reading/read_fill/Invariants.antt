use Rattle.std.proofs.Common.{◌≡◌, ◌+◌, ◌-◌, ◌≤◌, IsTrue, length, take}
use Rattle.edge_io.specs.{Cause.NoFault, Octets.Gives}
use Rattle.edge_io.proofs.reading.read_fill.Given as goal

abbrev pub invariant-pieces : goal.invariant-pieces
invariant-pieces g l =
    IsTrue (g.S.Edge.told l.src).ready
    × Gives (g.S.Edge.told l.initial.src).left (g.S.Edge.told l.src).left (take l.filled l.buf)
    × (l.filled ≤ length l.buf)
    × ((g.S.Edge.told l.src).most + l.filled ≤ (g.S.Edge.told l.initial.src).most)
    × ((g.S.Edge.told l.src).ended ≡ (g.S.Edge.told l.initial.src).ended)
    × ((g.S.Edge.told l.src).written ≡ (g.S.Edge.told l.initial.src).written)
    × ((g.S.Edge.told l.src).pieces ≡ (g.S.Edge.told l.initial.src).pieces)
    × NoFault (g.S.Edge.told l.initial.src) (g.S.Edge.told l.src)

abbrev pub decreases-pieces : goal.decreases-pieces
decreases-pieces g l = length l.buf - l.filled
