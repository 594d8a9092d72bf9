use Rattle.std.proofs.Common.{None, Ok, rules}
use Rattle.lte_machine.specs.StationState.{StationRecord, OnS1}
use Rattle.s1x2_rec.specs.Fields.{HandoverCommand}
use Rattle.enb_context.proofs.Serving.{serves}
use Rattle.enb_context.proofs.station.Station.handover_command.Goals as goal

pub returns : goal.returns
returns c =
    serves _ _ _ c.handover_command.new.self c.handover_command.new.out
    (StationRecord OnS1 (Ok (record {
      fields = HandoverCommand c.args.conn c.args.attempt c.args.cell c.args.ncc c.args.algs c.args.air;
      key = None;
    })))
    c.self.view_is (search rules)
    c.handover_command.ensures.step
