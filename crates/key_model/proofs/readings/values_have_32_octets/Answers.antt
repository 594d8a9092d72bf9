use Rattle.key_model.proofs.TermFacts.{length-value}
use Rattle.key_model.proofs.readings.values_have_32_octets.Goals as goal

pub returns : goal.returns
returns c = length-value
