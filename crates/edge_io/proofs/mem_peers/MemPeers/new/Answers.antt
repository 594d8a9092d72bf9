use Rattle.std.proofs.Common.{List, length, sym, subst, arith}
use Rattle.edge_io.specs.Peers.{PeerTold, IdleFrom}
use Rattle.edge_io.proofs.Changed.{IdleFrom-new}
use Rattle.edge_io.proofs.mem_peers.MemPeers.new.Goals as goal

pub invariant_of-result-clause-idle : goal.invariant_of-result-clause-idle
invariant_of-result-clause-idle c =
    let P : List PeerTold → Type 0 = λ peers. IdleFrom (length c.in_ok-roles.roles.items) peers in
    subst P (sym c.in_ok-peers.ensures) (λ peer from. IdleFrom-new _ _ peer (omega arith))
