use Rattle.std.proofs.Common.{◌∙◌, ap, sym}
use Rattle.lte_events.specs.declared.inputs.PhoneIn.TheVariants.{Nas}
use Rattle.lte_machine.specs.Calls.{phone_call}
use Rattle.ue_context.proofs.phone.Phone.reply.Goals as goal

pub returns-in-Nas : goal.returns-in-Nas
returns-in-Nas c =
    c.nas_message.ensures ∙ ap (λ x. phone_call c.args.self.now x) (ap Nas c.as_slice.ensures.value ∙ sym c.in-Nas.is)
