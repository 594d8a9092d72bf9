use Rattle.lte_events.specs.declared.acts.CoreAct.TheVariants.{SendNas}
use Rattle.lte_machine.specs.CoreState.{CoreActs}
use Rattle.mme_context.proofs.Whole.{rest_in, whole}
use Rattle.mme_context.proofs.mme.Core.send_nas.Goals as goal

pub returns : goal.returns
returns c = whole _ _ (CoreActs (SendNas c.args.text.now)) _ _ c.self.view_is c.answer.ensures (c.send-said.ensures (rest_in c.self.inside))
