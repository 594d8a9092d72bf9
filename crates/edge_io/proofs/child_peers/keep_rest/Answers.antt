use Rattle.edge_io.proofs.Served.{keeps}
use Rattle.edge_io.proofs.child_peers.keep_rest.Goals as goal

pub returns-in-Ok : goal.returns-in-Ok
returns-in-Ok c = keeps c.push.result _ _ _ c.args.role c.args.octets.now c.in-Ok.octets _ c.in-Ok.ensures.items c.push.ensures.items c.push.ensures.refused
