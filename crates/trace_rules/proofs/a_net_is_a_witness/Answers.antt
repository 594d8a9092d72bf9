use Rattle.trace_rules.proofs.Search.{witness}
use Rattle.trace_rules.proofs.a_net_is_a_witness.Goals as goal

pub returns : goal.returns
returns g c = λ moved fits covers family bound start capture end i. witness moved fits covers family bound start capture end i
