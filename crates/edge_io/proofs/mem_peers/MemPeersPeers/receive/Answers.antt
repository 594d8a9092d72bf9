use Rattle.std.proofs.Common.{List, length, refl, sym, subst}
use Rattle.edge_io.specs.Peers.{PeerTold, IdleFrom}
use Rattle.edge_io.proofs.Changed.{nothing_taken, IdleFrom-change}
use Rattle.edge_io.proofs.mem_peers.MemPeersPeers.receive.Goals as goal

pub returns-in-Err-clause-prefix : goal.returns-in-Err-clause-prefix
returns-in-Err-clause-prefix c = nothing_taken c.args.peer (length c.args.buf.now) _ _ _ _ refl

pub returns-in-Err-receive_at-clause-prefix : goal.returns-in-Err-receive_at-clause-prefix
returns-in-Err-receive_at-clause-prefix c = nothing_taken c.args.peer (length c.args.buf.now) _ _ _ _ c.in-Err-receive_at.ensures.err

pub invariant_of-self-in-Ok-clause-idle : goal.invariant_of-self-in-Ok-clause-idle
invariant_of-self-in-Ok-clause-idle c =
    let P : List PeerTold → Type 0 = λ peers. IdleFrom (length c.args.self.now.roles.items) peers in
    subst P (sym c.in-Ok.ensures.ok)
    (IdleFrom-change _ c.args.peer _ c.args.self.now.peers.items c.requires.started c.args.self.now.idle)
