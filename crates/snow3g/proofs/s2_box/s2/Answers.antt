use Rattle.snow3g.proofs.BoxTables.{s2-is}
use Rattle.snow3g.proofs.s2_box.s2.Goals as goal

pub returns : goal.returns
returns c = s2-is c.args.w c.ranges.w.fits
