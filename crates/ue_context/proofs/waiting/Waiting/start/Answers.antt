use Rattle.std.proofs.Common.{rules}
use Rattle.ue_context.proofs.StartSteps.{start_fails, start_taken}
use Rattle.ue_context.proofs.waiting.Waiting.start.Goals as goal

pub returns-in-Ok-open : goal.returns-in-Ok-open
returns-in-Ok-open c =
    let s = c.in-Ok.start in
    rw c.in-Srb1.is
    (start_taken c.args.nas.now c.args.self.now c.args.station c.args.air c.args.pdu.now s.count s.algs s.named
    (search rules) (search rules) c.in-Ok-open.field-0 _ (search rules) (c.take_start.ensures c.args.nas.now))

pub returns-in-Err-open : goal.returns-in-Err-open
returns-in-Err-open c =
    let s = c.in-Ok.start in
    rw c.in-Srb1.is
    (start_fails c.args.nas.now c.args.self.now c.args.station c.args.air c.args.pdu.now s.count s.algs s.named
    (search rules) (search rules) c.in-Err-open.fault c.only-in-Err-open.new.self (search rules) (search rules))
