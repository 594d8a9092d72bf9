use Rattle.std.proofs.Common.{length}
use Rattle.fault_sets.proofs.sets.+put.Given as goal

abbrev pub decreases-put : goal.decreases-put
decreases-put l = length l.places.now
