use Rattle.std.proofs.Common.{◌<◌, length, arith}
use Rattle.report_text.proofs.RowLines.{one_more_row}
use Rattle.report_text.proofs.ladders.ladder_text.Goals as goal

pub loop-k-preserved : goal.loop-k-preserved
loop-k-preserved c =
    let below : c.loop-k.k < length c.args.ladder.now.rows = omega (arith, c.loop-k-test.true, c.len-k-end.ensures.len) in
    one_more_row c.args.ladder.now.rows c.loop-k.k _ _ _ below c.in_ok-add_row.ensures.text c.loop-k.invariant
