use Rattle.std.proofs.Common.{refl}
use Rattle.snow3g.specs.State.{mixed_for}
use Rattle.snow3g.proofs.generator.Generator.mix_sixteen.Goals as goal

pub returns : goal.returns
unfolding mixed_for
returns c =
    rw (
      c.mix-16.ensures,
      c.mix-15.ensures,
      c.mix-14.ensures,
      c.mix-13.ensures,
      c.mix-12.ensures,
      c.mix-11.ensures,
      c.mix-10.ensures,
      c.mix-9.ensures,
      c.mix-8.ensures,
      c.mix-7.ensures,
      c.mix-6.ensures,
      c.mix-5.ensures,
      c.mix-4.ensures,
      c.mix-3.ensures,
      c.mix-2.ensures,
      c.mix.ensures,
    )
    refl
