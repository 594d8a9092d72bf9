use Rattle.std.proofs.Common.{ap, ◌∙◌, rules}
use Rattle.lte_machine.specs.World.{station_of_id}
use Rattle.lte_world.specs.Whole.{context_kenb}
use Rattle.lte_world.proofs.Getting.{kenb_at, kenb_nowhere}
use Rattle.lte_world.proofs.system.System.station_kenb.Goals as goal

pub returns-in_default : goal.returns-in_default
returns-in_default c =
    kenb_nowhere c.self.inside.ids.items c.self.inside.stations.items c.self.invariant.0 c.args.id (search rules)
    ∙ ap (λ v. context_kenb (station_of_id c.args.id v.stations)) c.self.view_is

pub returns : goal.returns
returns c =
    kenb_at c.self.inside.ids.items c.self.inside.stations.items c.self.invariant.0 c.args.id c.in-Some.place
    (search rules) (search rules) c.index.result.now c.index.ensures c.kenb.result c.kenb.ensures
    ∙ ap (λ v. context_kenb (station_of_id c.args.id v.stations)) c.self.view_is
