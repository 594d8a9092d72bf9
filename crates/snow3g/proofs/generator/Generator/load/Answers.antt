use Rattle.std.proofs.Common.{refl}
use Rattle.snow3g.specs.State.{loaded, state_at}
use Rattle.snow3g.proofs.generator.Generator.load.Goals as goal

pub returns : goal.returns
unfolding loaded state_at
returns c =
    rw (
      c.inverted.ensures,
      c.inverted-2.ensures,
      c.inverted-3.ensures,
      c.inverted-4.ensures,
      c.inverted-5.ensures,
      c.inverted-6.ensures,
      c.inverted-7.ensures,
      c.inverted-8.ensures,
      c.key_word-k0.ensures,
      c.key_word-k1.ensures,
      c.key_word-k2.ensures,
      c.key_word-k3.ensures,
    ) refl
