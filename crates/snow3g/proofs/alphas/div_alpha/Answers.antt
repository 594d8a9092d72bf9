use Rattle.std.proofs.Common.{arith}
use Rattle.snow3g.proofs.AlphaTables.{div_alpha-is}
use Rattle.snow3g.proofs.alphas.div_alpha.Goals as goal

pub returns : goal.returns
returns c = div_alpha-is _ (omega arith)
