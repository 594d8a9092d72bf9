use Rattle.std.proofs.Common.{refl}
use Rattle.lte_tables.specs.Outcomes.{fault_lines}
use Rattle.lte_tables.proofs.outcomes.fault_lines.Goals as goal

pub returns-clause-lines : goal.returns-clause-lines
unfolding fault_lines
returns-clause-lines c = refl
