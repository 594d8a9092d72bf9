use Rattle.std.proofs.Common.{rules}
use Rattle.ue_context.proofs.AirSteps.{srb_refused, srb_taken_so}
use Rattle.ue_context.proofs.link.Link.air_srb.Goals as goal

pub returns-in-Err : goal.returns-in-Err
returns-in-Err c =
    srb_refused c.args.nas.now c.args.self.now c.args.station c.args.air c.args.bearer c.args.pdu.now c.requires.here
    c.in-Err.fault c.only.new.self c.requires.on c.requires.srb (search rules) (search rules)

pub returns : goal.returns
returns c =
    srb_taken_so c.args.nas.now c.args.self.now c.args.station c.args.air c.args.bearer c.args.pdu.now c.requires.here
    c.in-Ok.opened _ c.requires.on c.requires.srb (search rules) c.take_rrc.ensures
