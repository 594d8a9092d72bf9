use Rattle.std.proofs.Common.{rules}
use Rattle.edge_io.proofs.Moving.{appends_on}
use Rattle.edge_io.proofs.served_child.send_all.Goals as goal

pub pieces-preserved : goal.pieces-preserved
pieces-preserved g c =
    (appends_on _ _ _ c.pieces.sent c.in_ok-count.count c.args.octets.now c.pieces.invariant.0 c.in_ok-count.ensures.bytes, search rules)
