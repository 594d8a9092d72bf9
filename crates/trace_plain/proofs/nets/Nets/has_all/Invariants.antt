use Rattle.std.proofs.Common.{drop}
use Rattle.trace_rules.proofs.Members.{Sub}
use Rattle.trace_plain.proofs.nets.Nets.has_all.Given as goal

abbrev pub invariant-loop-net : goal.invariant-loop-net
invariant-loop-net l = Sub (drop l.net-index l.nets) l.self → Sub l.nets l.self
