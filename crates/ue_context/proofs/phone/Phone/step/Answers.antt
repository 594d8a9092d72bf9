use Rattle.std.proofs.Common.{ap}
use Rattle.ue_context.proofs.Refusing.{leaves, gives, tells_so}
use Rattle.ue_context.proofs.phone.Phone.step.Goals as goal

pub returns-clause-refused : goal.returns-clause-refused
returns-clause-refused c = leaves c.args.self.now c.reply.new.self c.args.input.now c.reply.new.out c.reply.ensures

pub returns-clause-alone : goal.returns-clause-alone
returns-clause-alone c = gives c.args.self.now c.reply.new.self c.args.input.now c.reply.new.out c.reply.ensures

pub returns-clause-told : goal.returns-clause-told
returns-clause-told c = tells_so c.args.self.now c.reply.new.self c.args.input.now c.reply.new.out c.reply.ensures

pub returns-clause-accepted : goal.returns-clause-accepted
returns-clause-accepted c = ap (λ d. d.1.accepted) c.reply.ensures
