use Rattle.std.proofs.Common.{inr, refl}
use Rattle.trace_nas.specs.Heard.{fits}
use Rattle.trace_nas.proofs.Following.{follows}
use Rattle.trace_nas.proofs.contexts_follow.Goals as goal

pub returns : goal.returns
returns c = λ kasmes covers bound left start moves capture seen h.
    follows (fits kasmes) covers seen bound left start moves capture start.using start.offered (refl, inr refl) h
