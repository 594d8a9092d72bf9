use Rattle.std.proofs.Common.{sym, ◌∙◌}
use Rattle.item_probe.proofs.Finding.{own_behind, own_here}
use Rattle.item_probe.proofs.acts.own_cell.Goals as goal

pub returns-then-station-id : goal.returns-then-station-id
returns-then-station-id c =
    sym (c.loop-number.invariant ∙ own_here c.args.cells.now c.loop-number.number c.args.id (record { station = c.at-station.result.0; cell = c.at-station.result.1 }) c.at-station.ensures.value c.if-station-id.true)

pub loop-number-preserved : goal.loop-number-preserved
loop-number-preserved c =
    c.loop-number.invariant ∙ own_behind c.args.cells.now c.loop-number.number c.args.id (record { station = c.at-station.result.0; cell = c.at-station.result.1 }) c.at-station.ensures.value c.if-station-id.false
