use Rattle.std.proofs.Common.{◌≡◌, ◌-◌, ◌≤◌, true, IsTrue, length, take}
use Rattle.edge_io.specs.{Cause.NoFault, Lines.are_lines, Octets.Grows}
use Rattle.edge_io.proofs.writing.write_all.Given as goal

abbrev pub invariant-pieces : goal.invariant-pieces
invariant-pieces g l =
    IsTrue (g.K.Edge.told l.sink).ready
    × Grows (g.K.Edge.told l.initial.sink).written (g.K.Edge.told l.sink).written (take l.sent l.octets)
    × (l.sent ≤ length l.octets)
    × ((g.K.Edge.told l.sink).left ≡ (g.K.Edge.told l.initial.sink).left)
    × ((g.K.Edge.told l.sink).most ≡ (g.K.Edge.told l.initial.sink).most)
    × ((g.K.Edge.told l.sink).ended ≡ (g.K.Edge.told l.initial.sink).ended)
    × (are_lines l.octets ≡ true → (g.K.Edge.told l.sink).lines ≡ (g.K.Edge.told l.initial.sink).lines)
    × ((g.K.Edge.told l.sink).pieces ≡ (g.K.Edge.told l.initial.sink).pieces)
    × NoFault (g.K.Edge.told l.initial.sink) (g.K.Edge.told l.sink)

abbrev pub decreases-pieces : goal.decreases-pieces
decreases-pieces g l = length l.octets - l.sent
