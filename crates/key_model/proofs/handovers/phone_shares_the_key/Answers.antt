use Rattle.key_model.proofs.HandoverFacts.{same_key, same_active_key}
use Rattle.key_model.proofs.handovers.phone_shares_the_key.Goals as goal

pub returns-clause-vertical : goal.returns-clause-vertical
returns-clause-vertical c = λ r t n. same_key r n t

pub returns-clause-horizontal : goal.returns-clause-horizontal
returns-clause-horizontal c = λ r t n. same_active_key r n t
