use Rattle.std.proofs.Common.{rules}
use Rattle.ue_context.proofs.AirSteps.{drb_taken_so}
use Rattle.ue_context.proofs.link.Link.air_drb.Goals as goal

pub returns : goal.returns
returns c =
    drb_taken_so c.args.nas.now c.args.self.now c.args.station c.args.air c.args.bearer c.args.pdu.now c.requires.here
    c.in-Ok.opened _ c.requires.on c.requires.drb (search rules) (search rules)
