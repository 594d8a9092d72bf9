use Rattle.std.proofs.Common.{None, Ok, rules}
use Rattle.lte_machine.specs.StationState.{StationRecord, OnX2}
use Rattle.s1x2_rec.specs.Fields.{X2Ack}
use Rattle.enb_context.proofs.Serving.{serves}
use Rattle.enb_context.proofs.station.Station.x2_ack.Goals as goal

pub returns : goal.returns
returns c =
    serves _ _ _ c.x2_ack.new.self c.x2_ack.new.out
    (StationRecord OnX2
    (Ok (record { fields = X2Ack c.args.conn c.args.attempt c.args.cell c.args.algs c.args.air; key = None })))
    c.self.view_is (search rules)
    c.x2_ack.ensures.step
