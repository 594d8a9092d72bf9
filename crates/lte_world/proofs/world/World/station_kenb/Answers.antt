use Rattle.lte_world.proofs.Reading.{station_read, elsewhere, joined}
use Rattle.lte_world.proofs.world.World.station_kenb.Goals as goal

pub returns-clause-kenb : goal.returns-clause-kenb
returns-clause-kenb c =
    station_read c.self.inside.setup c.self.inside.journal.items c.self.inside.over c.self.inside.ready
    c.self.inside.system c.self.invariant.3 c.args.self.now c.self.view_is c.args.id c.station_kenb.result
    c.station_kenb.ensures

pub returns-clause-elsewhere : goal.returns-clause-elsewhere
returns-clause-elsewhere c =
    elsewhere c.self.inside.setup c.self.inside.journal.items c.self.inside.over c.self.inside.ready
    c.self.inside.system c.self.invariant.3 c.args.self.now c.self.view_is c.args.id c.station_kenb.result
    c.station_kenb.ensures

pub returns-clause-joined : goal.returns-clause-joined
returns-clause-joined c =
    joined c.self.inside.setup c.self.inside.journal.items c.self.inside.over c.self.inside.ready c.self.inside.system
    c.self.invariant.3 c.args.self.now c.self.view_is c.self.invariant.0 c.self.invariant.1 c.args.id
    c.station_kenb.result c.station_kenb.ensures
