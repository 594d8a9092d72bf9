use Rattle.std.proofs.Common.{◌≡◌, replicate}
use Rattle.lte_world.specs.Whole.{begun}
use Rattle.fleet_world.proofs.worlds.add_worlds.Given as goal

abbrev pub invariant-loop-phone : goal.invariant-loop-phone
invariant-loop-phone l = l.worlds.items ≡ replicate l._phone (begun l.setup)
