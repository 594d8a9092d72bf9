use Rattle.trace_order.proofs.Making.{known_number}
use Rattle.trace_order.proofs.reach.number_by.Goals as goal

pub returns : goal.returns
returns c = known_number c.args.kasmes.now c.args.known.now c.args.pair.now c.requires
