use Rattle.std.proofs.Common.{rules}
use Rattle.lte_machine.specs.StationState.{StationActs}
use Rattle.lte_events.specs.declared.acts.StationAct.TheVariants.{Command}
use Rattle.enb_context.proofs.Serving.{serves_at}
use Rattle.enb_context.proofs.station.Station.command.Goals as goal

pub returns : goal.returns
returns c =
    serves_at _ _ c.in-Some.context c.command.new.self c.command.new.out (StationActs (Command)) c.self.view_is (search rules)
    c.command.ensures.step
