use Rattle.lte_world.specs.Settling.{told_in}
use Rattle.lte_world.proofs.{Replying.first_is, Turning.core_settles_from, Turning.core_turns_from}
use Rattle.lte_world.proofs.system.System.core_turn.Goals as goal

pub settle-requires-clause-awaits : goal.settle-requires-clause-awaits
settle-requires-clause-awaits c =
    core_settles_from _ c.args.self.now c.self.view_is c.args.input c.core.new.core c.first.result.now
    (λ j. (c.core.ensures.actor j, first_is _ _ _ c.core.ensures.told c.first.ensures j)) c.requires.can

pub returns-clause-turns : goal.returns-clause-turns
returns-clause-turns c =
    core_turns_from _ c.args.self.now c.self.view_is c.args.input c.core.new.core c.first.result.now
    (λ j. (
      c.core.ensures.actor j,
      first_is _ _ _ c.core.ensures.told c.first.ensures j,
    ))
    c.args.sender c.args.step (told_in c.settle.result c.settle.new.line) _ c.settle.ensures.settled
