use Rattle.std.proofs.Common.{◌≡◌, ◌++◌, drop}
use Rattle.std.specs.List.{flat_map}
use Rattle.item_probe.specs.Acts.{station_tries}
use Rattle.item_probe.proofs.acts.push_station_tries.Given as goal

abbrev pub invariant-loop-station : goal.invariant-loop-station
invariant-loop-station l =
    l.initial.acts.items ++ flat_map (station_tries l.setup) l.stations ≡ l.acts.items ++ flat_map (station_tries l.setup) (drop l.station-index l.stations)
