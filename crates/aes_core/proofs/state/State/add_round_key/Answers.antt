use Rattle.std.proofs.Common.{◌≡◌, ◌+◌, ◌*◌, length, refl, ap, ◌∙◌, rules, arith}
use Rattle.aes_core.specs.{Aes.add_round_key, KeyExpansion.add_words, Word.word_octets}
use Rattle.aes_core.proofs.WordLemmas.{four_words, key_column, word_octets-xor}
use Rattle.aes_core.proofs.state.State.add_round_key.Goals as goal

pub returns : goal.returns
unfolding add_round_key word_octets
returns c =
    let s = c.args.self in
    let words = c.args.words.now in
    let n = c.args.round in
    let long : length words ≡ 44 = search rules in
    four_words _ _ _ _ _ _ _ _
    (word_octets-xor s.0 _ ∙ ap (add_words (word_octets s.0)) (key_column words n 0 (4 * n) (omega arith) (omega arith)))
    (word_octets-xor s.1 _ ∙ ap (add_words (word_octets s.1)) (key_column words n 1 (4 * n + 1) refl (omega arith)))
    (word_octets-xor s.2 _ ∙ ap (add_words (word_octets s.2)) (key_column words n 2 (4 * n + 2) refl (omega arith)))
    (word_octets-xor s.3 _ ∙ ap (add_words (word_octets s.3)) (key_column words n 3 (4 * n + 3) refl (omega arith)))
