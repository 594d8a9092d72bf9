use Rattle.std.proofs.Common.{refl}
use Rattle.zuc.specs.State.{next, word}
use Rattle.zuc.proofs.generator.Generator.next_word.Goals as goal

pub returns-clause-state : goal.returns-clause-state
unfolding next
returns-clause-state c = c.clock.ensures

pub returns-clause-value : goal.returns-clause-value
unfolding word
returns-clause-value c = rw (c.f_word.ensures, c.x3.ensures, returns-clause-state c) refl
