use Rattle.std.proofs.Common.{rules}
use Rattle.toml.specs.View.{table_view}
use Rattle.scenario_file.specs.Values.{cell_in}
use Rattle.scenario_file.proofs.Ranges.{cell_fits}
use Rattle.scenario_file.proofs.values.cell.Goals as goal

pub returns-clause-fits : goal.returns-clause-fits
unfolding cell_in
returns-clause-fits c = cell_fits c.args.field (table_view c.args.table.now) _ (search rules)
