use Rattle.std.proofs.Common.{◌≡◌, ◌++◌, drop}
use Rattle.std.specs.List.{flat_map}
use Rattle.item_probe.specs.Acts.{station_repeats}
use Rattle.item_probe.proofs.acts.push_station_repeats.Given as goal

abbrev pub invariant-loop-station : goal.invariant-loop-station
invariant-loop-station l =
    l.initial.acts.items ++ flat_map (station_repeats l.setup) l.stations ≡ l.acts.items ++ flat_map (station_repeats l.setup) (drop l.station-index l.stations)
