use Rattle.std.proofs.Common.{◌≡◌, ◌+◌, ◌*◌, length, map, refl, ◌∙◌, rules, arith}
use Rattle.aes_core.specs.Aes.{add_round_key, mix_columns, shift_rows, sub_bytes}
use Rattle.aes_core.specs.SBox.{sub_byte}
use Rattle.aes_core.specs.Word.{diagonal, mixed_column, word_octets}
use Rattle.aes_core.proofs.WordLemmas.{four_words, key_column, sums_turned}
use Rattle.aes_core.proofs.state.State.round.Goals as goal

pub returns : goal.returns
unfolding add_round_key mix_columns shift_rows sub_bytes word_octets
returns c =
    let s = c.args.self in
    let words = c.args.words.now in
    let n = c.args.round in
    let long : length words ≡ 44 = search rules in
    four_words _ _ _ _ _ _ _ _
    (c.mixed_column.ensures
    ∙ sums_turned _ _ (mixed_column (map sub_byte (diagonal s.0 s.1 s.2 s.3)))
    (key_column words n 0 (4 * n) (omega arith) (omega arith)))
    (c.mixed_column-2.ensures ∙ sums_turned _ _ (mixed_column (map sub_byte (diagonal s.1 s.2 s.3 s.0))) (key_column words n 1 (4 * n + 1) refl (omega arith)))
    (c.mixed_column-3.ensures ∙ sums_turned _ _ (mixed_column (map sub_byte (diagonal s.2 s.3 s.0 s.1))) (key_column words n 2 (4 * n + 2) refl (omega arith)))
    (c.mixed_column-4.ensures ∙ sums_turned _ _ (mixed_column (map sub_byte (diagonal s.3 s.0 s.1 s.2))) (key_column words n 3 (4 * n + 3) refl (omega arith)))
