use Rattle.std.proofs.Common.{below_more, arith}
use Rattle.key_audit.proofs.checks.each_row_fits.Goals as goal

pub loop-k-preserved : goal.loop-k-preserved
loop-k-preserved c = (
  below_more _ _ c.loop-k.invariant.0 (c.row_fits.ensures.0 c.if-not-row_fits.false),
  omega (arith, c.loop-k-test.true, c.len-k-end.ensures.len),
)
