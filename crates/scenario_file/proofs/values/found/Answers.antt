use Rattle.toml.proofs.Views.{table_get}
use Rattle.scenario_file.proofs.values.found.Goals as goal

pub returns : goal.returns
returns c = rw (← c.name.ensures.name) (table_get c.get.result c.name.result.now c.args.table.now.entries c.get.ensures.value)
