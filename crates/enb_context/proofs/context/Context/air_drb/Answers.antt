use Rattle.std.proofs.Common.{rules}
use Rattle.enb_context.proofs.AirSteps.{drb_taken_so}
use Rattle.enb_context.proofs.context.Context.air_drb.Goals as goal

pub returns-clause-step : goal.returns-clause-step
returns-clause-step c = λ s.
    drb_taken_so s c.args.self.now c.args.air c.args.bearer c.args.pdu.now c.in-Ok.opened _ c.requires.here
    c.requires.active c.requires.on c.requires.drb (search rules) (search rules)
