use Rattle.std.proofs.Common.{refl}
use Rattle.lte_tables.specs.Outcomes.{outcome_lines}
use Rattle.lte_tables.proofs.outcomes.outcome_lines.Goals as goal

pub returns-clause-lines : goal.returns-clause-lines
unfolding outcome_lines
returns-clause-lines c = refl
