use Rattle.std.proofs.Common.{◌≡◌, ◌≤◌, ◌+◌, length, drop}
use Rattle.toml.specs.View.{items_view}
use Rattle.scenario_file.specs.Setup.{sites_from}
use Rattle.scenario_file.proofs.setup.sites_from.Given as goal

abbrev pub invariant-loop-value : goal.invariant-loop-value
invariant-loop-value l = record {
  so_far : sites_from l.fn.cells l.id (items_view l.values) ≡ sites_from l.cells l.id (items_view (drop l.value-index l.values));
  few : length l.cells ≤ length l.fn.cells + l.value-index;
}
