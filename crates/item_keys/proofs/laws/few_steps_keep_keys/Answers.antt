use Rattle.item_keys.proofs.FewKeep.{few_keep}
use Rattle.item_keys.proofs.laws.few_steps_keep_keys.Goals as goal

pub returns : goal.returns
returns c = record { keep = few_keep c.args.course.now c.requires.promises }
