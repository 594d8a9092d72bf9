use Rattle.std.proofs.Common.{ap, ◌∙◌, arith}
use Rattle.std.proofs.Math.ListN.{set}
use Rattle.edge_io.proofs.Changed.{set-change}
use Rattle.edge_io.proofs.mem_peers.stop_at.Goals as goal

pub returns-clause-stopped : goal.returns-clause-stopped
returns-clause-stopped c =
    ap (λ p. set c.args.peers.now.items c.args.place p) c.stop.ensures
    ∙ set-change c.args.place _ c.args.peers.now.items c.index_mut.result.now (omega arith) c.index_mut.ensures.value
