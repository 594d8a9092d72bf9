use Rattle.std.proofs.Common.{rules}
use Rattle.toml.specs.View.{table_view}
use Rattle.scenario_file.specs.Values.{caps_in}
use Rattle.scenario_file.proofs.Ranges.{caps_fit}
use Rattle.scenario_file.proofs.values.caps.Goals as goal

pub returns-clause-fits : goal.returns-clause-fits
unfolding caps_in
returns-clause-fits c = caps_fit c.args.field (table_view c.args.table.now) _ (search rules)
