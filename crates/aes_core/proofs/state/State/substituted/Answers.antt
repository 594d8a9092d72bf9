use Rattle.aes_core.specs.{Aes.shift_rows, Aes.sub_bytes, Word.word_octets}
use Rattle.aes_core.proofs.WordLemmas.{four_words}
use Rattle.aes_core.proofs.state.State.substituted.Goals as goal

pub returns : goal.returns
unfolding shift_rows sub_bytes word_octets
returns c =
    four_words _ _ _ _ _ _ _ _ c.substituted_column.ensures c.substituted_column-2.ensures c.substituted_column-3.ensures c.substituted_column-4.ensures
