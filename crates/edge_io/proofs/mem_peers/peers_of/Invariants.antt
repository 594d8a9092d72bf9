use Rattle.std.proofs.Common.{◌≡◌, map}
use Rattle.edge_io.specs.Peers.{new_peer}
use Rattle.edge_io.proofs.mem_peers.peers_of.Given as goal

abbrev pub invariant-loop-reply : goal.invariant-loop-reply
invariant-loop-reply l = l.peers.items ≡ map (new_peer l.room) (map (λ reply. reply.items) l.yielded)
