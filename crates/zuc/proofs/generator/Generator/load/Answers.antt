use Rattle.std.proofs.Common.{refl}
use Rattle.zuc.specs.State.{loaded, state_at}
use Rattle.zuc.proofs.generator.Generator.load.Goals as goal

pub returns : goal.returns
unfolding loaded state_at
returns c =
    rw (
      c.loaded_stage.ensures,
      c.loaded_stage-2.ensures,
      c.loaded_stage-3.ensures,
      c.loaded_stage-4.ensures,
      c.loaded_stage-5.ensures,
      c.loaded_stage-6.ensures,
      c.loaded_stage-7.ensures,
      c.loaded_stage-8.ensures,
      c.loaded_stage-9.ensures,
      c.loaded_stage-10.ensures,
      c.loaded_stage-11.ensures,
      c.loaded_stage-12.ensures,
      c.loaded_stage-13.ensures,
      c.loaded_stage-14.ensures,
      c.loaded_stage-15.ensures,
      c.loaded_stage-16.ensures,
    ) refl
