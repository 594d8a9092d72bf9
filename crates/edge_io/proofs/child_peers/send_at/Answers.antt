use Rattle.edge_io.proofs.Served.{of_peer, on_ok, on_err}
use Rattle.edge_io.proofs.child_peers.send_at.Goals as goal

pub returns-clause-sent : goal.returns-clause-sent
returns-clause-sent g c =
    on_ok c.send.result (λ sent. of_peer c.args.place c.args.peers.now.items c.index_mut.result.now c.send.new.self _
    c.requires c.index_mut.ensures.value (c.send.ensures.role, c.send.ensures.process, sent))
    c.send.ensures.sent

pub returns-clause-failed : goal.returns-clause-failed
returns-clause-failed g c =
    on_err c.send.result (λ cut. of_peer c.args.place c.args.peers.now.items c.index_mut.result.now c.send.new.self _
    c.requires c.index_mut.ensures.value (c.send.ensures.role, c.send.ensures.process, cut))
    c.send.ensures.failed
