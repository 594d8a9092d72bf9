use Rattle.aes_core.proofs.SBoxTable.{multiply-inverse}
use Rattle.aes_core.proofs.s_box.product_with_inverse_is_one.Goals as goal

pub returns : goal.returns
returns c = multiply-inverse
