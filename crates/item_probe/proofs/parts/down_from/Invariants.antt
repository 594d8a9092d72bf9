use Rattle.std.proofs.Common.{◌≡◌, ◌++◌, drop}
use Rattle.std.specs.List.{flat_map}
use Rattle.item_probe.specs.Parts.{down_from}
use Rattle.item_probe.proofs.parts.down_from.Given as goal

abbrev pub invariant-loop-station : goal.invariant-loop-station
invariant-loop-station l =
    l.initial.list.items ++ flat_map (down_from l.steps) l.stations
    ≡ l.list.items ++ flat_map (down_from l.steps) (drop l.station-index l.stations)
