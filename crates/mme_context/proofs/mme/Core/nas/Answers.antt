use Rattle.std.proofs.Common.{◌∙◌, ap}
use Rattle.lte_machine.specs.CoreState.{CoreNasPdu}
use Rattle.nas_smc.specs.CoreNas.{core_after, core_of}
use Rattle.mme_context.proofs.Whole.{rest_in, whole}
use Rattle.mme_context.proofs.mme.Core.nas.Goals as goal

pub returns : goal.returns
returns c =
    let rest = rest_in c.self.inside in
    whole _ _ (CoreNasPdu c.args.pdu.now) _ _ c.self.view_is
    (c.answer.ensures ∙ ap (core_after (core_of c.on_pdu-said.new.self rest) c.on_pdu-said.result) c.has_new_context.ensures)
    (c.on_pdu-said.ensures rest)
