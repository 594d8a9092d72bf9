use Rattle.key_model.proofs.HandoverFacts.{carries_lines}
use Rattle.key_model.proofs.readings.lines_are_carried.Goals as goal

pub returns : goal.returns
returns g c = carries_lines
