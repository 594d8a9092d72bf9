use Rattle.std.proofs.Common.{rules}
use Rattle.hub_drive.proofs.Receiving.{receive_failed, receive_differs}
use Rattle.hub_drive.proofs.calling.receive_in.Goals as goal

pub returns-in-Err-clause-went : goal.returns-in-Err-clause-went
returns-in-Err-clause-went g c = λ written behind parts.
    receive_failed written c.args.peer _ _ _ _ c.requires.room c.in-Err.ensures.prefix

pub returns-clause-went : goal.returns-clause-went
returns-clause-went g c = λ written behind parts.
    receive_differs written c.args.peer _ _ c.args.reply.now c.receive.new.buf c.differs.result _ _ c.requires.room
    (search rules) (search rules) parts c.differs.ensures c.in-Ok.ensures.taken c.in-Ok.ensures.full
