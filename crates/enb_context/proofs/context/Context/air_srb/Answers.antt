use Rattle.std.proofs.Common.{rules}
use Rattle.enb_context.proofs.AirSteps.{srb_refused, srb_taken_so}
use Rattle.enb_context.proofs.context.Context.air_srb.Goals as goal

pub returns-in-Err-clause-step : goal.returns-in-Err-clause-step
returns-in-Err-clause-step c = λ s.
    srb_refused s c.args.self.now c.args.air c.args.bearer c.args.pdu.now c.in-Err.fault c.only.new.self c.requires.here
    c.requires.active c.requires.on c.requires.srb (search rules) (search rules)

pub returns-clause-step : goal.returns-clause-step
returns-clause-step c = λ s.
    srb_taken_so s c.args.self.now c.args.air c.args.bearer c.args.pdu.now c.in-Ok.opened _ c.requires.here
    c.requires.active c.requires.on c.requires.srb (search rules) (c.take_rrc.ensures.step s)
