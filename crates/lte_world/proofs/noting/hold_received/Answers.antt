use Rattle.lte_world.proofs.ReplyIsKept.{received_held}
use Rattle.lte_world.proofs.noting.hold_received.Goals as goal

pub returns-in-Some-clause-held : goal.returns-in-Some-clause-held
returns-in-Some-clause-held c =
    received_held c.args.who c.in-Some.key c.args.received.now c.args.ladder.now.rows c.hold_one.new.ladder.rows
    c.in-Some.is c.hold_one.ensures.held
