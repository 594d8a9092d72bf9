use Rattle.std.proofs.Common.{◌≡◌, ◌/◌, ◌%◌, ◌^◌, ap, ◌∙◌, arith}
use Rattle.aes_core.specs.{SBox.sub_byte, Word.word_octets}
use Rattle.aes_core.proofs.WordLemmas.{four_same, word_octets-from}
use Rattle.aes_core.proofs.state.substituted_column.Goals as goal

pub returns : goal.returns
unfolding word_octets
returns c =
    let a = c.args.a in
    let highest : a / 2 ^ 24 ≡ a / 2 ^ 24 % 256 = omega arith in
    word_octets-from _ _ _ _ _ (omega arith) (omega arith) (omega arith) (omega arith) c.from_be_bytes.ensures
    ∙ four_same _ _ _ _ _ _ _ _ (c.sub_byte.ensures ∙ ap sub_byte highest) c.sub_byte-2.ensures c.sub_byte-3.ensures c.sub_byte-4.ensures
