use Rattle.std.proofs.Common.{rules}
use Rattle.edge_io.proofs.child_peers.ChildPeersPeers.start.Goals as goal

pub returns-in-Err-Peer-clause-failed : goal.returns-in-Err-Peer-clause-failed
returns-in-Err-Peer-clause-failed g c fault _ is =
    let why = c.in-Err-Peer.ensures.failed fault (search rules) in
    search rules
