use Rattle.hub_drive.proofs.Places.{start_lacked, start_failed}
use Rattle.hub_drive.proofs.calling.start.Goals as goal

pub returns-in-Err-Memory-clause-went : goal.returns-in-Err-Memory-clause-went
returns-in-Err-Memory-clause-went g c = λ written.
    start_lacked written c.args.role c.in-Err-Memory.field-0 _ _ c.in-Err-Memory.field-0-is c.in-Err-Memory.ensures.told

pub returns-in-Err-Failed-clause-went : goal.returns-in-Err-Failed-clause-went
returns-in-Err-Failed-clause-went g c = λ written.
    start_failed written c.args.role c.in-Err-Failed.field-0 _ _ c.in-Err-Failed.field-0-is c.in-Err-Failed.ensures.told
