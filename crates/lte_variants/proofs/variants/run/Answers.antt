use Rattle.lte_variants.proofs.EachOnce.{choices_once}
use Rattle.lte_variants.proofs.variants.run.Goals as goal

pub returns-in-Some-clause-once : goal.returns-in-Some-clause-once
returns-in-Some-clause-once g c = λ request is. choices_once c.args.words.now (g.R.Edge.told c.args.input.now).left request is

pub returns-in-None-clause-once : goal.returns-in-None-clause-once
returns-in-None-clause-once g c = λ request is. choices_once c.args.words.now (g.R.Edge.told c.args.input.now).left request is
