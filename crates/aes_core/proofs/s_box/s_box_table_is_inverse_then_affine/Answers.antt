use Rattle.aes_core.specs.SBox.{sub_byte}
use Rattle.aes_core.proofs.SBoxTable.{get_or-S_BOX}
use Rattle.aes_core.proofs.s_box.s_box_table_is_inverse_then_affine.Goals as goal

pub returns : goal.returns
unfolding sub_byte
returns c = get_or-S_BOX
