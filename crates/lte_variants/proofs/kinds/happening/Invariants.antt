use Rattle.std.proofs.Common.{◌≡◌, ◌++◌, drop}
use Rattle.std.specs.List.{filter}
use Rattle.lte_variants.specs.Kinds.{happens}
use Rattle.lte_variants.proofs.kinds.happening.Given as goal

abbrev pub invariant-loop-fault : goal.invariant-loop-fault
invariant-loop-fault l = filter (happens l.kinds) l.faults ≡ l.list.items ++ filter (happens l.kinds) (drop l.fault-index l.faults)
