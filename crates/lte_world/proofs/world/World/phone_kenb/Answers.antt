use Rattle.lte_world.proofs.Reading.{phone_read}
use Rattle.lte_world.proofs.world.World.phone_kenb.Goals as goal

pub returns : goal.returns
returns c =
    phone_read c.self.inside.setup c.self.inside.journal.items c.self.inside.over c.self.inside.ready
    c.self.inside.system c.self.invariant.3 c.args.self.now c.self.view_is c.phone_kenb.result c.phone_kenb.ensures
