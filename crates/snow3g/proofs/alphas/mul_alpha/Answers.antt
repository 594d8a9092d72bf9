use Rattle.std.proofs.Common.{arith}
use Rattle.snow3g.proofs.AlphaTables.{mul_alpha-is}
use Rattle.snow3g.proofs.alphas.mul_alpha.Goals as goal

pub returns : goal.returns
returns c = mul_alpha-is _ (omega arith)
