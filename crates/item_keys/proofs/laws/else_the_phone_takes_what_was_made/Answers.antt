use Rattle.item_keys.proofs.{AtItems.takes_made, Exact.else_made}
use Rattle.item_keys.proofs.laws.else_the_phone_takes_what_was_made.Goals as goal

pub returns-clause-lines : goal.returns-clause-lines
returns-clause-lines c = else_made c.args.course.now c.requires.promises

pub returns-clause-items : goal.returns-clause-items
returns-clause-items c = takes_made c.args.course.now c.requires.promises
