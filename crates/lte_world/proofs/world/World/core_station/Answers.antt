use Rattle.lte_world.proofs.Reading.{core_read}
use Rattle.lte_world.proofs.world.World.core_station.Goals as goal

pub returns : goal.returns
returns c =
    core_read c.self.inside.setup c.self.inside.journal.items c.self.inside.over c.self.inside.ready
    c.self.inside.system c.self.invariant.3 c.args.self.now c.self.view_is c.core_station.result c.core_station.ensures
