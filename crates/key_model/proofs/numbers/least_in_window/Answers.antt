use Rattle.key_model.proofs.LeastFacts.{least_in_window}
use Rattle.key_model.proofs.numbers.least_in_window.Goals as goal

pub returns : goal.returns
returns c = least_in_window
