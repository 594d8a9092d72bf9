use Rattle.std.proofs.Common.{rules}
use Rattle.lte_machine.specs.StationState.{StationActs}
use Rattle.lte_events.specs.declared.acts.StationAct.TheVariants.{SendUser}
use Rattle.enb_context.proofs.Serving.{serves_at}
use Rattle.enb_context.proofs.station.Station.send_user.Goals as goal

pub returns : goal.returns
returns c =
    serves_at _ _ _ c.send_user.new.self c.send_user.new.out (StationActs (SendUser c.args.bearer c.args.text.now)) c.self.view_is (search rules)
    c.send_user.ensures.step
