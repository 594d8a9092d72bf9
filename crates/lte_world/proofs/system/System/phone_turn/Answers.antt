use Rattle.lte_world.specs.Settling.{told_in}
use Rattle.lte_world.proofs.{Replying.first_is, Turning.phone_settles_from, Turning.phone_turns_from}
use Rattle.lte_world.proofs.system.System.phone_turn.Goals as goal

pub settle-requires-clause-awaits : goal.settle-requires-clause-awaits
settle-requires-clause-awaits c =
    phone_settles_from _ c.args.self.now c.self.view_is c.args.input c.phone.new.phone c.first.result.now
    (λ j. (c.phone.ensures.actor j, first_is _ _ _ c.phone.ensures.told c.first.ensures j)) c.requires.can

pub returns-clause-turns : goal.returns-clause-turns
returns-clause-turns c =
    phone_turns_from _ c.args.self.now c.self.view_is c.args.input c.phone.new.phone c.first.result.now
    (λ j. (
      c.phone.ensures.actor j,
      first_is _ _ _ c.phone.ensures.told c.first.ensures j,
    ))
    c.args.sender c.args.step (told_in c.settle.result c.settle.new.line) _ c.settle.ensures.settled
