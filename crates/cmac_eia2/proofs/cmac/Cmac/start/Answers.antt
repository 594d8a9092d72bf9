use Rattle.cmac_eia2.specs.State.{fed}
use Rattle.cmac_eia2.proofs.cmac.Cmac.start.Goals as goal

pub returns : goal.returns
unfolding fed
returns c = c.start.ensures
