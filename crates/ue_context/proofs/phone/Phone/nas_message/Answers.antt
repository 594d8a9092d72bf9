use Rattle.std.proofs.Common.{sym, ◌∙◌}
use Rattle.ue_context.specs.Parts.{radio_of}
use Rattle.ue_context.proofs.phone.Phone.nas_message.Goals as goal

pub returns : goal.returns
returns c = rw (← c.self.view_is) (c.follow.ensures ∙ sym (c.on_pdu-said.ensures (radio_of c.self.inside.radio)))
