use Rattle.std.proofs.Common.{refl}
use Rattle.lte_tables.specs.Sends.{sends_lines}
use Rattle.lte_tables.proofs.sends.sends_lines.Goals as goal

pub returns : goal.returns
unfolding sends_lines
returns c = refl
