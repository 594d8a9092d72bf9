use Rattle.std.proofs.Common.{rules}
use Rattle.edge_io.proofs.Moving.{consumes_on}
use Rattle.edge_io.proofs.served_child.fill.Goals as goal

pub pieces-preserved : goal.pieces-preserved
pieces-preserved g c = (
  consumes_on _ _ _ c.pieces.filled c.in_ok-count.count c.pieces.buf c.read_once.new.buf c.pieces.invariant.1
      (search rules) c.pieces.invariant.0 c.in_ok-count.ensures.bytes.0,
  search rules,
  search rules,
)
