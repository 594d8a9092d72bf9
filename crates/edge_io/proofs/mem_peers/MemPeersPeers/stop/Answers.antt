use Rattle.std.proofs.Common.{List, length, sym, subst}
use Rattle.edge_io.specs.Peers.{PeerTold, IdleFrom}
use Rattle.edge_io.proofs.Changed.{IdleFrom-change}
use Rattle.edge_io.proofs.mem_peers.MemPeersPeers.stop.Goals as goal

pub invariant_of-self-clause-idle : goal.invariant_of-self-clause-idle
invariant_of-self-clause-idle c =
    let P : List PeerTold → Type 0 = λ peers. IdleFrom (length c.args.self.now.roles.items) peers in
    subst P (sym c.stop_at.ensures.stopped)
    (IdleFrom-change _ c.args.peer _ c.args.self.now.peers.items c.requires.started c.args.self.now.idle)
