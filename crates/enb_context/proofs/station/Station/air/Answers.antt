use Rattle.std.proofs.Common.{rules}
use Rattle.lte_machine.specs.StationState.{AirPdu}
use Rattle.enb_context.proofs.Serving.{serves}
use Rattle.enb_context.proofs.station.Station.air.Goals as goal

pub returns : goal.returns
returns c =
    serves _ _ c.in-Some.context c.air.new.self c.air.new.out (AirPdu c.args.air c.args.bearer c.args.pdu.now) c.self.view_is (search rules)
    c.air.ensures.step
