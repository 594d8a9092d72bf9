use Rattle.std.proofs.Common.{◌≡◌, map}
use Rattle.std.specs.List.{range_with_len}
use Rattle.scenario_file.specs.Draws.{station_setup, site_of}
use Rattle.scenario_file.proofs.generator.generated_setup.Given as goal

abbrev pub invariant-loop-s : goal.invariant-loop-s
invariant-loop-s l = record {
  stations : l.stations ≡ map station_setup (range_with_len 0 l.s);
  cells : l.cells ≡ map site_of (range_with_len 0 l.s);
}
