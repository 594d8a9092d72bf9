use Rattle.std.proofs.Common.{ap, ◌∙◌}
use Rattle.cmac_eia2.specs.State.{ended}
use Rattle.cmac_eia2.proofs.StateLemmas.{ended-fed}
use Rattle.cmac_eia2.proofs.cmac.Cmac.end.Goals as goal

pub returns : goal.returns
returns c = λ key text state. c.end.ensures ∙ ap ended (c.self.view_is ∙ state) ∙ ended-fed key text
