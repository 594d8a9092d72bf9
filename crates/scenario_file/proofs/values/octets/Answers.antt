use Rattle.std.proofs.Common.{rules}
use Rattle.toml.specs.View.{table_view}
use Rattle.scenario_file.specs.Values.{octets_in}
use Rattle.scenario_file.proofs.Ranges.{octets_fit}
use Rattle.scenario_file.proofs.values.octets.Goals as goal

pub returns-clause-fits : goal.returns-clause-fits
unfolding octets_in
returns-clause-fits g c = octets_fit _ c.args.field (table_view c.args.table.now) _ (search rules)
