use Rattle.std.proofs.Common.{rules}
use Rattle.enb_context.proofs.AirSteps.{starting_refused, starting_taken_so}
use Rattle.enb_context.proofs.context.Context.air_starting.Goals as goal

pub returns-in-Err-clause-step : goal.returns-in-Err-clause-step
returns-in-Err-clause-step c = λ s.
    rw c.in-Srb1.is (starting_refused s c.args.self.now c.args.air c.args.pdu.now c.in-Err.fault c.only-in-Err.new.self
    c.requires.here c.requires.starting (search rules) (search rules))

pub returns-clause-step : goal.returns-clause-step
returns-clause-step c = λ s.
    rw c.in-Srb1.is (starting_taken_so s c.args.self.now c.args.air c.args.pdu.now c.in-Ok.opened _ c.requires.here
    c.requires.starting (search rules) (c.take_starting.ensures.step s))
