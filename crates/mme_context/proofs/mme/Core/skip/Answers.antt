use Rattle.lte_events.specs.declared.acts.CoreAct.TheVariants.{Skip}
use Rattle.lte_machine.specs.CoreState.{CoreActs}
use Rattle.mme_context.proofs.Whole.{rest_in, whole}
use Rattle.mme_context.proofs.mme.Core.skip.Goals as goal

pub returns : goal.returns
returns c = whole _ _ (CoreActs (Skip c.args.n)) _ _ c.self.view_is c.answer.ensures (c.skip-said.ensures (rest_in c.self.inside))
