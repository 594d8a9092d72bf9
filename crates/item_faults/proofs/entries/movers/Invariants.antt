use Rattle.std.proofs.Common.{◌≡◌, [], drop}
use Rattle.item_faults.specs.Entries.{movers_from}
use Rattle.item_faults.proofs.entries.movers.Given as goal

abbrev pub invariant-loop-e : goal.invariant-loop-e
invariant-loop-e l = movers_from [] l.span ≡ movers_from l.moved.items (drop l.e-index l.span)
