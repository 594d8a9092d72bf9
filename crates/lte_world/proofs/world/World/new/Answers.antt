use Rattle.lte_world.proofs.{Counting.none_within, LastReplies.first_replied, Starting.begins}
use Rattle.lte_world.proofs.world.World.new.Goals as goal

pub invariant_of-result : goal.invariant_of-result
invariant_of-result c =
    let keeps = begins c.args.setup.now c.requires c.in_ok-system.system c.in_ok-system.ensures.begins
    c.copied_setup.result c.copied_setup.ensures c.new-2.result.items c.new-2.ensures.items c.new-2.result.spare in (
      keeps.0,
      keeps.1,
      keeps.2,
      keeps.3,
      first_replied c.copied_setup.result c.new-2.result.items c.new-3.result c.new-2.ensures.items c.new-3.ensures,
      none_within c.args.setup.now c.in_ok-system.system c.new-2.result.items c.in_ok-system.ensures.begins c.new-2.ensures.items,
    )
