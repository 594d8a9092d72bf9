use Rattle.std.proofs.Common.{◌≡◌, ◌-◌, length, get_or, map, [], rules, refl, sym, ◌∙◌, arith}
use Rattle.std.proofs.lemmas.List.{get_or-map}
use Rattle.aes_core.specs.{KeyExpansion.next_word, Word.word_octets}
use Rattle.aes_core.proofs.WordLemmas.{word_octets-xor}
use Rattle.aes_core.proofs.key_expansion.next_word.Goals as goal

pub returns : goal.returns
unfolding next_word
returns c =
    let words = c.args.words.now in
    let i = c.args.i in
    let long : length words ≡ 44 = search rules in
    let before : word_octets (get_or words (i - 4) 0) ≡ get_or (map word_octets words) (i - 4) [] =
    sym (get_or-map word_octets words (i - 4) 0 [] (omega arith)) in
    let last : word_octets (get_or words (i - 1) 0) ≡ get_or (map word_octets words) (i - 1) [] =
    sym (get_or-map word_octets words (i - 1) 0 [] (omega arith)) in
    word_octets-xor (get_or words (i - 4) 0) c.key_mask.result
    ∙ rw (before, c.key_mask.ensures, last) refl
