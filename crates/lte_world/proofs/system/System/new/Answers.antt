use Rattle.std.proofs.Common.{rules}
use Rattle.lte_world.proofs.Starting.{ids_stand}
use Rattle.lte_world.proofs.system.System.new.Goals as goal

pub invariant_of-result : goal.invariant_of-result
invariant_of-result c =
    ids_stand c.args.setup.now.cells c.args.setup.now.stations c.in_ok-ids.ids.items c.in_ok-stations.stations.items
    (search rules) (search rules) c.requires.ids_differ c.requires.stations
