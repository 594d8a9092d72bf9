use Rattle.std.proofs.Common.{refl}
use Rattle.lte_world.specs.Settling.{told_in}
use Rattle.lte_world.proofs.{Replying.on_ok, Replying.core_tells, Routing.core_happens}
use Rattle.lte_world.proofs.system.System.core_act.Goals as goal

pub returns-clause-happens : goal.returns-clause-happens
returns-clause-happens c =
    core_happens c.args.self.now c.core_turn.new.self c.args.step
    (told_in c.core_turn.result c.core_turn.new.line) c.args.act.now
    c.copied_core_act.result c.copied_core_act.ensures c.core_turn.ensures.turns

pub returns-clause-told : goal.returns-clause-told
returns-clause-told c =
    on_ok c.core_turn.result (core_tells c.args.self.now c.args.self.now refl c.core_turn.new.told c.args.act.now
    c.copied_core_act.result c.copied_core_act.ensures c.core_turn.ensures.told)
