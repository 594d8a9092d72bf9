use Rattle.lte_machine.proofs.CoreRefused.{core_refused}
use Rattle.lte_machine.proofs.refusals.refused_core_step.Goals as goal

pub returns : goal.returns
returns g c = core_refused
