use Rattle.std.proofs.Common.{◌≡◌, ◌≤◌, ◌*◌, length, drop}
use Rattle.toml.specs.View.{items_view}
use Rattle.scenario_file.specs.Setup.{stations_from, no_stations}
use Rattle.scenario_file.proofs.setup.stations.Given as goal

abbrev pub invariant-loop-value : goal.invariant-loop-value
invariant-loop-value l = record {
  so_far : stations_from l.system no_stations (items_view l.values) ≡ stations_from l.system l.network (items_view (drop l.value-index l.values));
  stations : length l.network.stations ≡ l.value-index;
  cells : length l.network.cells ≤ 4 * l.value-index;
}
