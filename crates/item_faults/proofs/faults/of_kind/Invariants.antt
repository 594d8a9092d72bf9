use Rattle.std.proofs.Common.{◌≡◌, drop}
use Rattle.item_faults.specs.Faults.{at_places}
use Rattle.item_faults.proofs.faults.of_kind.Given as goal

abbrev pub invariant-loop-e : goal.invariant-loop-e
invariant-loop-e l =
    at_places l.entries l.kind l.message l.initial.faults.items l.entries
    ≡ at_places l.entries l.kind l.message l.faults.items (drop l.e-index l.entries)
