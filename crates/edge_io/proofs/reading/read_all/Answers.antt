use Rattle.std.proofs.Common.{arith, length-take}
use Rattle.edge_io.proofs.Known.{loses_on, loses_within}
use Rattle.edge_io.proofs.reading.read_all.Goals as goal

pub returns-then-count-limit-clause-left : goal.returns-then-count-limit-clause-left
returns-then-count-limit-clause-left g c =
    loses_on _ _ _ c.pieces.octets.items _ c.pieces.invariant.1 c.in-Ok.ensures.octets

pub returns-then-is_err-clause-left : goal.returns-then-is_err-clause-left
returns-then-is_err-clause-left g c =
    loses_on _ _ _ c.pieces.octets.items _ c.pieces.invariant.1 c.in-Ok.ensures.octets

pub returns-then-is_err-clause-not_past : goal.returns-then-is_err-clause-not_past
returns-then-is_err-clause-not_past g c = λ other.
    loses_within c.args.limit _ _ _ c.pieces.octets.items _ (omega (arith, length-take c.in-Ok.count c.read.new.buf))
    c.pieces.invariant.1 c.in-Ok.ensures.octets
