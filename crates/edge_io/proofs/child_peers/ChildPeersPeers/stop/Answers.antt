use Rattle.std.proofs.Common.{inr, rules}
use Rattle.edge_io.proofs.Served.{of_peer_on}
use Rattle.edge_io.proofs.child_peers.ChildPeersPeers.stop.Goals as goal

pub returns-clause-ended : goal.returns-clause-ended
returns-clause-ended g c =
    inr (of_peer_on c.args.peer c.args.self.now.peers.items _ c.index.result.now _ _ (search rules) (search rules) c.stop_at-count.ensures.ended
    (λ new is. (is.0, is.1, is.2, record { octets = _; said = is.3; kept = c.keep_rest.ensures })))
