use Rattle.std.proofs.Common.{refl}
use Rattle.lte_world.specs.Settling.{told_in}
use Rattle.lte_world.proofs.{Replying.on_ok, Replying.phone_tells, Routing.phone_happens}
use Rattle.lte_world.proofs.system.System.phone_act.Goals as goal

pub returns-clause-happens : goal.returns-clause-happens
returns-clause-happens c =
    phone_happens c.args.self.now c.phone_turn.new.self c.args.step
    (told_in c.phone_turn.result c.phone_turn.new.line) c.args.act.now
    c.copied_phone_act.result c.copied_phone_act.ensures c.phone_turn.ensures.turns

pub returns-clause-told : goal.returns-clause-told
returns-clause-told c =
    on_ok c.phone_turn.result (phone_tells c.args.self.now c.args.self.now refl c.phone_turn.new.told c.args.act.now
    c.copied_phone_act.result c.copied_phone_act.ensures c.phone_turn.ensures.told)
