use Rattle.std.proofs.Common.{refl}
use Rattle.lte_tables.specs.Inputs.{input_lines}
use Rattle.lte_tables.proofs.inputs.input_lines.Goals as goal

pub returns-clause-lines : goal.returns-clause-lines
unfolding input_lines
returns-clause-lines c = refl
