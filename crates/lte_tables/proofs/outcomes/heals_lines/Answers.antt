use Rattle.std.proofs.Common.{refl}
use Rattle.lte_tables.specs.Outcomes.{heals_lines}
use Rattle.lte_tables.proofs.outcomes.heals_lines.Goals as goal

pub returns-clause-lines : goal.returns-clause-lines
unfolding heals_lines
returns-clause-lines c = refl
