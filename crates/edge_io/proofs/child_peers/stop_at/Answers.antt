use Rattle.edge_io.proofs.Served.{of_peer}
use Rattle.edge_io.proofs.child_peers.stop_at.Goals as goal

pub returns-clause-ended : goal.returns-clause-ended
returns-clause-ended g c =
    of_peer c.args.place c.args.peers.now.items c.index_mut.result.now c.stop.new.self _ c.requires
    c.index_mut.ensures.value
    (c.stop.ensures.role, c.stop.ensures.closed, c.stop.ensures.ended, c.stop.ensures.said)
