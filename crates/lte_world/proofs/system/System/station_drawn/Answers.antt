use Rattle.std.proofs.Common.{ap, ◌∙◌, rules}
use Rattle.lte_machine.specs.World.{station_of_id}
use Rattle.lte_world.specs.Whole.{station_air}
use Rattle.lte_world.proofs.Getting.{drawn_at, drawn_nowhere}
use Rattle.lte_world.proofs.system.System.station_drawn.Goals as goal

pub returns-in_default : goal.returns-in_default
returns-in_default c =
    drawn_nowhere c.self.inside.ids.items c.self.inside.stations.items c.self.invariant.0 c.args.id (search rules)
    ∙ ap (λ v. station_air (station_of_id c.args.id v.stations)) c.self.view_is

pub returns : goal.returns
returns c =
    drawn_at c.self.inside.ids.items c.self.inside.stations.items c.self.invariant.0 c.args.id c.in-Some.place
    (search rules) (search rules) c.index.result.now c.index.ensures c.drawn.result c.drawn.ensures
    ∙ ap (λ v. station_air (station_of_id c.args.id v.stations)) c.self.view_is
