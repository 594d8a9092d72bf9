use Rattle.std.proofs.Common.{rules}
use Rattle.item_standing.proofs.Served.{station_low}
use Rattle.item_standing.proofs.standing.serving_by.Goals as goal

pub returns-then-has_station-clause-station : goal.returns-then-has_station-clause-station
returns-then-has_station-clause-station c =
    station_low c.args.setup.now.stations c.in-Station.id c.requires.is_setup.stations (search rules)
