use Rattle.std.proofs.Common.{◌≡◌, drop}
use Rattle.trace_keys.specs.Same.{same_net as same_net_by}
use Rattle.trace_plain.specs.Once.{once_from}
use Rattle.trace_plain.proofs.nets.Nets.add_all.Given as goal

abbrev pub invariant-loop-net : goal.invariant-loop-net
invariant-loop-net l = once_from same_net_by l.self (drop l.net-index l.nets) ≡ once_from same_net_by l.fn.self l.nets
