use Rattle.std.proofs.Common.{◌∙◌, ◌++◌}
use Rattle.scenario_file.proofs.TableKeys.{all_keys}
use Rattle.scenario_file.proofs.keys.has_only.Goals as goal

pub returns : goal.returns
returns c = c.all_named.ensures ∙ all_keys (c.args.fields.now ++ c.args.more.now) c.args.table.now
