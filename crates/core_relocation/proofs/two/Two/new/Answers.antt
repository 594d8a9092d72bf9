use Rattle.core_relocation.proofs.Starting.{keeps_first}
use Rattle.core_relocation.proofs.two.Two.new.Goals as goal

pub invariant_of-result : goal.invariant_of-result
invariant_of-result c =
    keeps_first c.args.setup.now c.requires.begins c.in_ok-world.world c.in_ok-world.ensures.begins
    c.in_ok-world.ensures.run c.args.core_of.now c.copied.result c.copied.ensures
    c.new-2.result.events c.new-2.ensures.events c.new-2.result.senders c.new-2.ensures.senders
