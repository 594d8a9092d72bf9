use Rattle.std.proofs.Common.{◌≡◌, [], drop}
use Rattle.variant_text.specs.Faults.{faults_from}
use Rattle.variant_text.proofs.faults.faults_text.Given as goal

abbrev pub invariant-loop-fault : goal.invariant-loop-fault
invariant-loop-fault l = faults_from [] l.faults ≡ faults_from l.text.items (drop l.fault-index l.faults)
