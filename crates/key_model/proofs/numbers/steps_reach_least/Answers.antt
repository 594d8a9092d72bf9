use Rattle.key_model.proofs.LeastFacts.{first_is_least, steps_reach}
use Rattle.key_model.proofs.numbers.steps_reach_least.Goals as goal

pub returns-clause-first : goal.returns-clause-first
returns-clause-first c = first_is_least

pub returns-clause-enough : goal.returns-clause-enough
returns-clause-enough c = steps_reach
