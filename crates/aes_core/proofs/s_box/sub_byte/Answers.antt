use Rattle.aes_core.proofs.SBoxTable.{get_or-S_BOX}
use Rattle.aes_core.proofs.s_box.sub_byte.Goals as goal

pub returns : goal.returns
returns c = get_or-S_BOX c.args.octet c.ranges.octet.fits
