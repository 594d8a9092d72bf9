use Rattle.edge_io.proofs.Served.{of_peer, on_ok, on_err}
use Rattle.edge_io.proofs.child_peers.receive_at.Goals as goal

pub returns-clause-filled : goal.returns-clause-filled
returns-clause-filled g c =
    on_ok c.receive.result (λ filled. of_peer c.args.place c.args.peers.now.items c.index_mut.result.now
    c.receive.new.self _ c.requires c.index_mut.ensures.value
    (c.receive.ensures.role, c.receive.ensures.process, filled))
    c.receive.ensures.filled

pub returns-clause-failed : goal.returns-clause-failed
returns-clause-failed g c =
    on_err c.receive.result (λ cut. of_peer c.args.place c.args.peers.now.items c.index_mut.result.now
    c.receive.new.self _ c.requires c.index_mut.ensures.value
    (c.receive.ensures.role, c.receive.ensures.process, cut))
    c.receive.ensures.failed
