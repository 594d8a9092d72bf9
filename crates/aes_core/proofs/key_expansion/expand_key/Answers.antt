use Rattle.std.proofs.Common.{◌≡◌, ◌+◌, ◌∙◌, length, map, take, refl, sym, ap, arith, length-set}
use Rattle.std.proofs.lemmas.List.{take_all, map-set, length-map}
use Rattle.aes_core.specs.{KeyExpansion.first_words, KeyExpansion.key_expansion, Word.word_octets}
use Rattle.aes_core.proofs.{KeyExpansionLemmas.first_words_more, WordLemmas.four_lists}
use Rattle.aes_core.proofs.key_expansion.expand_key.Goals as goal

pub loop-i-init : goal.loop-i-init
unfolding first_words
loop-i-init c = (refl, four_lists _ _ _ _ _ _ _ _ c.key_word.ensures c.key_word-2.ensures c.key_word-3.ensures c.key_word-4.ensures)

pub loop-i-preserved : goal.loop-i-preserved
loop-i-preserved c =
    let words = c.loop-i.words in
    let i = c.loop-i.i in
    let long : length words ≡ 44 = c.loop-i.invariant.0 in
    let mapped : length (map word_octets words) ≡ 44 = length-map words word_octets ∙ long in (
      length-set words i c.next_word.result ∙ long,
      ap (take (i + 1)) (map-set word_octets words i c.next_word.result)
          ∙ first_words_more c.args.key.now (map word_octets words) (word_octets c.next_word.result) i (omega arith) (omega arith)
          c.loop-i.invariant.1 c.next_word.ensures,
    )

pub returns : goal.returns
unfolding key_expansion
returns c =
    let end : c.loop-i.i ≡ 44 = omega arith in
    let mapped : length (map word_octets c.loop-i.words) ≡ 44 = length-map c.loop-i.words word_octets ∙ c.loop-i.invariant.0 in
    sym (take_all 44 (map word_octets c.loop-i.words) (omega arith)) ∙ rw end at c.loop-i.invariant.1
