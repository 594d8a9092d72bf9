use Rattle.std.proofs.Common.{sym, ◌∙◌}
use Rattle.item_probe.proofs.Finding.{other_behind, other_here}
use Rattle.item_probe.proofs.acts.other_cell.Goals as goal

pub returns-then-station-id : goal.returns-then-station-id
returns-then-station-id c =
    sym (c.loop-number.invariant ∙ other_here c.args.cells.now c.loop-number.number c.args.id (record { station = c.at-station.result.0; cell = c.at-station.result.1 }) c.at-station.ensures.value c.if-station-id.true)

pub loop-number-preserved : goal.loop-number-preserved
loop-number-preserved c =
    c.loop-number.invariant ∙ other_behind c.args.cells.now c.loop-number.number c.args.id (record { station = c.at-station.result.0; cell = c.at-station.result.1 }) c.at-station.ensures.value c.if-station-id.false
