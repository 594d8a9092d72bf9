use Rattle.std.proofs.Common.{ap}
use Rattle.lte_events.specs.declared.inputs.ActorIn.{ActorIn}
use Rattle.lte_world.proofs.replies.core_at.Goals as goal

pub returns-clause-actor : goal.returns-clause-actor
returns-clause-actor c = ap (λ d. d.0) c.reply.ensures

pub returns-clause-told : goal.returns-clause-told
returns-clause-told c = ap (λ d. (ActorIn.Core c.args.input, d.1)) c.reply.ensures
