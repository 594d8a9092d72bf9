use Rattle.std.proofs.Common.{ap, ◌∙◌, arith}
use Rattle.std.proofs.Math.ListN.{set}
use Rattle.edge_io.proofs.Changed.{set-change}
use Rattle.edge_io.proofs.mem_peers.send_at.Goals as goal

pub returns-clause-ok : goal.returns-clause-ok
returns-clause-ok c =
    ap (λ p. set c.args.peers.now.items c.args.place p) c.in_ok-send.ensures.ok
    ∙ set-change c.args.place _ c.args.peers.now.items c.index_mut.result.now (omega arith) c.index_mut.ensures.value
