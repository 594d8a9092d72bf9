use Rattle.std.proofs.Common.{refl}
use Rattle.zuc.specs.State.{f_word, state_at}
use Rattle.zuc.proofs.generator.Generator.f_word.Goals as goal

pub returns : goal.returns
unfolding f_word state_at
returns c = rw c.x0.ensures refl
