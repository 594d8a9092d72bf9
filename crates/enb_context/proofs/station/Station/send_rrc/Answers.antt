use Rattle.std.proofs.Common.{rules}
use Rattle.lte_machine.specs.StationState.{StationActs}
use Rattle.lte_events.specs.declared.acts.StationAct.TheVariants.{SendRrc}
use Rattle.enb_context.proofs.Serving.{serves_at}
use Rattle.enb_context.proofs.station.Station.send_rrc.Goals as goal

pub returns : goal.returns
returns c =
    serves_at _ _ _ c.send_rrc.new.self c.send_rrc.new.out (StationActs (SendRrc c.args.bearer c.args.text.now)) c.self.view_is (search rules)
    c.send_rrc.ensures.step
