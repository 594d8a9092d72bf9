use Rattle.std.proofs.Common.{rules, arith}
use Rattle.edge_io.proofs.Known.{gives_on}
use Rattle.edge_io.proofs.reading.read_fill.Goals as goal

pub pieces-preserved : goal.pieces-preserved
pieces-preserved g c = (
  search rules,
  gives_on _ _ _ c.pieces.filled c.in_ok-got.got c.pieces.buf c.read.new.buf (omega arith) (search rules)
      c.pieces.invariant.1 c.in_ok-got.ensures.octets,
  search rules,
  search rules,
  search rules,
  search rules,
  search rules,
  search rules,
)
