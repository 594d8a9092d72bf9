use Rattle.std.proofs.Common.{◌≡◌, IsTrue}
use Rattle.edge_io.specs.Cause.{NoFault}
use Rattle.role_node.proofs.Going.{Going}
use Rattle.role_node.proofs.serving.session.Given as goal

abbrev pub invariant-frames : goal.invariant-frames
invariant-frames g l =
    IsTrue (g.L.Edge.told l.port).ready
    × NoFault (g.L.Edge.told l.initial.port) (g.L.Edge.told l.port)
    × ((g.L.Edge.told l.port).pieces ≡ (g.L.Edge.told l.initial.port).pieces)
    × Going l.role l.actor l.place (g.L.Edge.told l.initial.port) (g.L.Edge.told l.port)

abbrev pub decreases-frames : goal.decreases-frames
decreases-frames g l = (g.L.Edge.told l.port).most
