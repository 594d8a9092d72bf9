use Rattle.lte_properties.proofs.HeadlineHolds.{headline}
use Rattle.lte_hops.proofs.HopsHold.{hops}
use Rattle.lte_hops.proofs.hops.keys_are_secure_forward_and_backward.Goals as goal

pub returns : goal.returns
returns c = λ setup events set are. hops setup events (headline setup events set are)
