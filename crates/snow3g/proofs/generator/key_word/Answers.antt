use Rattle.std.proofs.Common.{arith}
use Rattle.aes_core.specs.Word.{word_number}
use Rattle.snow3g.proofs.generator.key_word.Goals as goal

pub returns : goal.returns
unfolding word_number
returns c = rw c.from_be_bytes.ensures (omega arith)
