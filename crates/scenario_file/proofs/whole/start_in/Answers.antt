use Rattle.toml.specs.View.{table_view}
use Rattle.scenario_file.proofs.SetupLaws.{start_can, start_cells, start_phones, start_cores}
use Rattle.scenario_file.proofs.whole.start_in.Goals as goal

pub returns-in-Ok-clause-can : goal.returns-in-Ok-clause-can
returns-in-Ok-clause-can c = start_can c.args.system (table_view c.args.document.now) _ c.in-Ok.ensures

pub returns-in-Ok-clause-cells : goal.returns-in-Ok-clause-cells
returns-in-Ok-clause-cells c = start_cells c.args.system (table_view c.args.document.now) _ c.in-Ok.ensures

pub returns-in-Ok-clause-phones : goal.returns-in-Ok-clause-phones
returns-in-Ok-clause-phones c = start_phones c.args.system (table_view c.args.document.now) _ c.in-Ok.ensures

pub returns-in-Ok-clause-cores : goal.returns-in-Ok-clause-cores
returns-in-Ok-clause-cores c = start_cores c.args.system (table_view c.args.document.now) _ c.in-Ok.ensures
