use Rattle.nas_guard.proofs.SealFacts.{opened-sealed}
use Rattle.nas_guard.proofs.laws.sealed_opens.Goals as goal

pub returns : goal.returns
returns c = opened-sealed
