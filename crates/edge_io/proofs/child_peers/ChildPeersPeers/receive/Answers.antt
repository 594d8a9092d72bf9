use Rattle.std.proofs.Common.{◌≡◌, Some, rules}
use Rattle.edge_io.specs.declared.peer_fault.PeerFault.TheVariants.{NoReply}
use Rattle.edge_io.proofs.Served.{at_number, took_part}
use Rattle.edge_io.proofs.child_peers.ChildPeersPeers.receive.Goals as goal

pub returns-in-Err-clause-failed : goal.returns-in-Err-clause-failed
returns-in-Err-clause-failed g c = took_part c.args.peer c.args.self.now.peers.items _ _ _ (search rules) c.in-Err.ensures.failed

pub returns-in-Err-clause-named : goal.returns-in-Err-clause-named
returns-in-Err-clause-named g c =
    at_number c.args.peer c.args.self.now.peers.items c.index.result.now (λ child. c.count_fault.new.failed ≡ Some (child.role, NoReply))
    (search rules) (search rules) c.count_fault.ensures.failed
