use Rattle.key_model.proofs.LeastFacts.{least_is, least_near, least_unique}
use Rattle.key_model.proofs.numbers.least_is_least.Goals as goal

pub returns-clause-least : goal.returns-clause-least
returns-clause-least c = least_is

pub returns-clause-only : goal.returns-clause-only
returns-clause-only c = λ low x w n within is. least_unique low x w n _ is (least_is low x w within)

pub returns-clause-near : goal.returns-clause-near
returns-clause-near c = least_near
