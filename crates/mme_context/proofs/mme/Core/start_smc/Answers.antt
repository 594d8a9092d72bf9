use Rattle.lte_events.specs.declared.acts.CoreAct.TheVariants.{StartSmc}
use Rattle.lte_machine.specs.CoreState.{CoreActs}
use Rattle.mme_context.proofs.Whole.{rest_in, whole}
use Rattle.mme_context.proofs.mme.Core.start_smc.Goals as goal

pub returns : goal.returns
returns c = whole _ _ (CoreActs StartSmc) _ _ c.self.view_is c.answer.ensures (c.start_smc-said.ensures (rest_in c.self.inside))
