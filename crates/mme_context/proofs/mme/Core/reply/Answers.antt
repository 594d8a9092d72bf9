use Rattle.std.proofs.Common.{◌∙◌, ap, rules, ◌≡◌}
use Rattle.lte_events.specs.declared.inputs.CoreIn.TheVariants.{Nas}
use Rattle.lte_machine.specs.Calls.{core_call}
use Rattle.mme_context.proofs.mme.Core.reply.Goals as goal

pub returns-in-Nas : goal.returns-in-Nas
returns-in-Nas c =
    let same : Nas c.as_slice.result.now ≡ c.args.input.now = search rules in
    c.nas.ensures ∙ ap (core_call c.args.self.now) same
