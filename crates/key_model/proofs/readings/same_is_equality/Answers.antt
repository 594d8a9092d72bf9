use Rattle.key_model.proofs.TermFacts.{same_term-Decides}
use Rattle.key_model.proofs.readings.same_is_equality.Goals as goal

pub returns-clause-term : goal.returns-clause-term
returns-clause-term c = same_term-Decides
