use Rattle.std.proofs.Common.{◌≡◌, ◌++◌, drop}
use Rattle.lte_machine.specs.Run.{stations_of}
use Rattle.lte_world.proofs.start.stations_of.Given as goal

abbrev pub invariant-loop-setup : goal.invariant-loop-setup
invariant-loop-setup l = l.stations.items ++ stations_of l.cells (drop l.setup-index l.setups) ≡ stations_of l.cells l.setups
