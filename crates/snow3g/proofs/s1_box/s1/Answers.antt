use Rattle.snow3g.proofs.BoxTables.{s1-is}
use Rattle.snow3g.proofs.s1_box.s1.Goals as goal

pub returns : goal.returns
returns c = s1-is c.args.w c.ranges.w.fits
