use Rattle.key_model.proofs.ReadingFacts.{same_use-map}
use Rattle.key_model.proofs.readings.uses_are_carried.Goals as goal

pub returns : goal.returns
returns g c = same_use-map
