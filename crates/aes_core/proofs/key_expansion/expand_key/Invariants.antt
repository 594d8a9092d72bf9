use Rattle.std.proofs.Common.{◌≡◌, ◌-◌, length, map, take}
use Rattle.aes_core.specs.{KeyExpansion.first_words, Word.word_octets}
use Rattle.aes_core.proofs.key_expansion.expand_key.Given as goal

abbrev pub invariant-loop-i : goal.invariant-loop-i
invariant-loop-i l = (length l.words ≡ 44) × (take l.i (map word_octets l.words) ≡ first_words l.key (l.i - 4))
