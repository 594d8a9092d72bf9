use Rattle.std.proofs.Common.{below_more}
use Rattle.key_audit.proofs.checks.row_fits.Goals as goal

pub loop-station-preserved : goal.loop-station-preserved
loop-station-preserved c =
    below_more _ _ c.loop-station.invariant (c.station_fits.ensures.0 c.if-not-station_fits.false)
