use Rattle.std.proofs.Common.{ap, ◌∙◌, ◌++◌, ◌∷◌, []}
use Rattle.lte_events.specs.declared.inputs.ActorIn.{ActorIn}
use Rattle.lte_world.proofs.replies.Replies.core_too.Goals as goal

pub returns-clause-actor : goal.returns-clause-actor
returns-clause-actor c = ap (λ d. d.0) c.reply.ensures

pub returns-clause-told : goal.returns-clause-told
returns-clause-told c =
    c.push.ensures.items ∙ (λ j. c.self.view_is j ++ (ActorIn.Core c.args.input, (c.reply.ensures j).1) ∷ [])
