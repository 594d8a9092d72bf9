use Rattle.std.proofs.Common.{sym}
use Rattle.ue_context.specs.Parts.{radio_of}
use Rattle.ue_context.proofs.phone.Phone.authenticate.Goals as goal

pub returns : goal.returns
returns c = rw (← c.self.view_is, c.only.ensures) (sym (c.authenticate.ensures (radio_of c.self.inside.radio)))
