use Rattle.lte_world.proofs.Reading.{records_read}
use Rattle.lte_world.proofs.world.World.records.Goals as goal

pub returns : goal.returns
returns c =
    records_read c.self.inside.setup c.self.inside.journal.items c.self.inside.over c.self.inside.ready
    c.self.inside.system c.self.invariant.3 c.args.self.now c.self.view_is c.records.result c.records.ensures
