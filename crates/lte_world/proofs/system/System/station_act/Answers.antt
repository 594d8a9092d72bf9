use Rattle.std.proofs.Common.{refl}
use Rattle.lte_world.specs.Settling.{told_in}
use Rattle.lte_world.proofs.{Replying.on_ok, Replying.station_tells, Routing.station_happens}
use Rattle.lte_world.proofs.system.System.station_act.Goals as goal

pub returns-clause-happens : goal.returns-clause-happens
returns-clause-happens c =
    station_happens c.args.self.now c.station_turn.new.self c.args.step
    (told_in c.station_turn.result c.station_turn.new.line) c.args.id c.args.act.now
    c.copied_station_act.result c.copied_station_act.ensures c.station_turn.ensures.turns

pub returns-clause-told : goal.returns-clause-told
returns-clause-told c =
    on_ok c.station_turn.result (station_tells c.args.self.now c.args.self.now refl c.station_turn.new.told c.args.id
    c.args.act.now c.copied_station_act.result c.copied_station_act.ensures c.station_turn.ensures.told)
