use Rattle.lte_world.proofs.Reading.{air_read}
use Rattle.lte_world.proofs.world.World.address.Goals as goal

pub returns : goal.returns
returns c =
    air_read c.self.inside.setup c.self.inside.journal.items c.self.inside.over c.self.inside.ready
    c.self.inside.system c.self.invariant.3 c.args.self.now c.self.view_is c.args.who.now c.address.result c.address.ensures
