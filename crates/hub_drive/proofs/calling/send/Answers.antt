use Rattle.hub_drive.proofs.Exchanging.{send_failed}
use Rattle.hub_drive.proofs.calling.send.Goals as goal

pub returns-in-Err-clause-went : goal.returns-in-Err-clause-went
returns-in-Err-clause-went g c = λ written.
    send_failed written c.args.peer c.as_slice.result.now c.args.frame.now _ _ c.as_slice.ensures.value c.in-Err.ensures.prefix
