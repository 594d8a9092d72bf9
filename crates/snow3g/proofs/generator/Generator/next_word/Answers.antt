use Rattle.std.proofs.Common.{refl, ap, ◌∙◌}
use Rattle.snow3g.specs.State.{clocked, next, state_at, word}
use Rattle.snow3g.proofs.generator.Generator.next_word.Goals as goal

pub returns-clause-state : goal.returns-clause-state
unfolding next
returns-clause-state c =
    c.clock.ensures ∙ ap (λ v. clocked v (state_at c.args.place c.args.self.now)) c.feedback-fed.ensures

pub returns-clause-value : goal.returns-clause-value
unfolding word
returns-clause-value c = rw (c.fsm_word.ensures, c.stage.ensures, returns-clause-state c) refl
