use Rattle.std.proofs.Common.{◌∙◌}
use Rattle.nas_smc.specs.CoreNas.{is_for_new_context}
use Rattle.nas_smc.proofs.CoreJoining.{joins}
use Rattle.nas_smc.proofs.core_nas.CoreNas.on_pdu.Goals as goal

pub returns : goal.returns
returns c = λ rest.
    joins c.args.self.now c.args.pdu.now c.judge-judged.result rest (c.judge-judged.ensures.row rest) (c.judge-judged.ensures.accepted rest)
    ∙ c.act.ensures rest (is_for_new_context c.args.pdu.now) c.judge-judged.ensures.kind
