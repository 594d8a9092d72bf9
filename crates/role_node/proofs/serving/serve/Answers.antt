use Rattle.role_node.proofs.Completing.{completes}
use Rattle.role_node.proofs.serving.serve.Goals as goal

pub returns-clause-complete : goal.returns-clause-complete
returns-clause-complete g c = completes _ _ _ _ c.session.ensures.session
