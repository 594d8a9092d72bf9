use Rattle.key_model.proofs.LeastFacts.{eight_ahead, steps_few}
use Rattle.key_model.proofs.numbers.eight_steps.Goals as goal

pub returns-clause-agree : goal.returns-clause-agree
returns-clause-agree c = eight_ahead

pub returns-clause-few : goal.returns-clause-few
returns-clause-few c = steps_few
