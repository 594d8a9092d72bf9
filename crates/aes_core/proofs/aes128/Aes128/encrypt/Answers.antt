use Rattle.std.proofs.Common.{◌≡◌, map, refl, ◌∙◌, ap}
use Rattle.aes_core.specs.Aes.{aes, after_rounds, cipher}
use Rattle.aes_core.specs.{KeyExpansion.key_expansion, Word.word_octets}
use Rattle.aes_core.proofs.aes128.Aes128.encrypt.Goals as goal

pub returns : goal.returns
unfolding aes after_rounds cipher
returns c =
    let words : map word_octets c.self.inside.words ≡ key_expansion c.args.self.now = c.self.invariant.0 ∙ ap key_expansion c.self.view_is in
    c.block.ensures ∙ c.add_round_key-last.ensures
    ∙ rw (
      c.substituted.ensures,
      c.round-first_rounds.ensures,
      c.round-8.ensures,
      c.round-7.ensures,
      c.round-6.ensures,
      c.round-5.ensures,
      c.round-4.ensures,
      c.round-3.ensures,
      c.round-2.ensures,
      c.round.ensures,
      c.add_round_key.ensures,
      c.of_block.ensures,
      words,
    )
    refl
