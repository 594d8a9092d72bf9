use Rattle.std.proofs.Common.{refl}
use Rattle.lte_tables.specs.Scenario.{field_lines}
use Rattle.lte_tables.proofs.scenario.field_lines.Goals as goal

pub returns-clause-lines : goal.returns-clause-lines
unfolding field_lines
returns-clause-lines c = refl
