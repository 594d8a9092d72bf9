use Rattle.std.proofs.Common.{◌≡◌, [], drop}
use Rattle.variant_runs.specs.Judged.{lost_from}
use Rattle.variant_runs.proofs.running.lost_names.Given as goal

abbrev pub invariant-loop-fault : goal.invariant-loop-fault
invariant-loop-fault l = lost_from [] l.faults ≡ lost_from l.names.items (drop l.fault-index l.faults)
