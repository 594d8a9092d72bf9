use Rattle.std.proofs.Common.{refl}
use Rattle.lte_tables.specs.Outcomes.{message_lines}
use Rattle.lte_tables.proofs.outcomes.message_lines.Goals as goal

pub returns-clause-lines : goal.returns-clause-lines
unfolding message_lines
returns-clause-lines c = refl
