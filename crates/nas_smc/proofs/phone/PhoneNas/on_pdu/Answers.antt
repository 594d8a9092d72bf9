use Rattle.std.proofs.Common.{◌∙◌}
use Rattle.nas_smc.proofs.Joining.{joins}
use Rattle.nas_smc.proofs.phone.PhoneNas.on_pdu.Goals as goal

pub returns : goal.returns
returns c = λ radio.
    joins c.args.self.now c.args.pdu.now c.judge-judged.result radio (c.judge-judged.ensures.row radio)
    (c.judge-judged.ensures.accepted radio)
    ∙ c.act.ensures radio
