use Rattle.enb_context.proofs.Refused.{refused_stays}
use Rattle.enb_context.proofs.station.Station.step.Goals as goal

pub returns-clause-refused : goal.returns-clause-refused
returns-clause-refused c = refused_stays c.args.self.now c.reply.new.self c.args.input.now c.reply.new.out c.reply.ensures
