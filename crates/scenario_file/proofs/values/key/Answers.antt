use Rattle.std.proofs.Common.{rules}
use Rattle.toml.specs.View.{table_view}
use Rattle.scenario_file.specs.Values.{key_in}
use Rattle.scenario_file.proofs.Ranges.{key_fits}
use Rattle.scenario_file.proofs.values.key.Goals as goal

pub returns-clause-fits : goal.returns-clause-fits
unfolding key_in
returns-clause-fits c = key_fits c.args.field (table_view c.args.table.now) _ (search rules)
