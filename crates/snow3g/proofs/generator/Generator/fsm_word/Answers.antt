use Rattle.std.proofs.Common.{refl}
use Rattle.snow3g.specs.State.{fsm_word, state_at}
use Rattle.snow3g.proofs.generator.Generator.fsm_word.Goals as goal

pub returns : goal.returns
unfolding fsm_word state_at
returns c = rw c.stage.ensures refl
