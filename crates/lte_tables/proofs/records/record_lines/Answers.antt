use Rattle.std.proofs.Common.{refl}
use Rattle.lte_tables.specs.Records.{record_lines}
use Rattle.lte_tables.proofs.records.record_lines.Goals as goal

pub returns-clause-lines : goal.returns-clause-lines
unfolding record_lines
returns-clause-lines c = refl
