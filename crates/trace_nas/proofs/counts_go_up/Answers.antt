use Rattle.std.proofs.Common.{arith}
use Rattle.trace_nas.specs.Heard.{fits}
use Rattle.trace_nas.proofs.Raising.{rises}
use Rattle.trace_nas.proofs.counts_go_up.Goals as goal

pub returns : goal.returns
returns c = λ kasmes covers bound left start moves capture h. rises (fits kasmes) covers bound left start moves capture start.next (λ d k. omega arith) h
