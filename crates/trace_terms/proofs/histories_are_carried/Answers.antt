use Rattle.std.proofs.Common.{refl}
use Rattle.trace_terms.proofs.Histories.{to_there, to_here}
use Rattle.trace_terms.proofs.histories_are_carried.Goals as goal

pub returns : goal.returns
returns g c = λ r q f h carries kasmes fits covers bound left net moves capture. (
  λ here. to_there r q f h carries kasmes fits covers bound left net moves capture here,
  λ there. to_here r q f h carries kasmes fits covers bound left _ net moves capture refl there,
)
