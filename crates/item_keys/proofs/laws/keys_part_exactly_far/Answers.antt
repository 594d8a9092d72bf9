use Rattle.item_keys.proofs.{AtItems.parts_far, Exact.exactly_far}
use Rattle.item_keys.proofs.laws.keys_part_exactly_far.Goals as goal

pub returns-clause-lines : goal.returns-clause-lines
returns-clause-lines c = exactly_far c.args.course.now c.requires.promises

pub returns-clause-items : goal.returns-clause-items
returns-clause-items c = parts_far c.args.course.now c.requires.promises
