use Rattle.std.proofs.Common.{Some, Ok, rules}
use Rattle.lte_machine.specs.StationState.{StationRecord, OnS1}
use Rattle.s1x2_rec.specs.Fields.{PathSwitchAnswer}
use Rattle.enb_context.proofs.Serving.{serves}
use Rattle.enb_context.proofs.station.Station.path_switch_answer.Goals as goal

pub returns : goal.returns
returns c =
    serves _ _ _ c.path_switch_answer.new.self c.path_switch_answer.new.out
    (StationRecord OnS1
    (Ok (record { fields = PathSwitchAnswer c.args.conn c.args.number; key = Some c.args.pair })))
    c.self.view_is (search rules)
    c.path_switch_answer.ensures.step
