use Rattle.mme_context.proofs.{Refused.refused_stays, RefusalsTellNumbers.call_tells}
use Rattle.mme_context.proofs.mme.Core.step.Goals as goal

pub returns-clause-refused : goal.returns-clause-refused
returns-clause-refused c = refused_stays c.args.self.now c.reply.new.self c.args.input.now c.reply.new.out c.reply.ensures

pub returns-clause-numbers : goal.returns-clause-numbers
returns-clause-numbers c = call_tells c.args.self.now c.reply.new.self c.args.input.now c.reply.new.out c.reply.ensures
