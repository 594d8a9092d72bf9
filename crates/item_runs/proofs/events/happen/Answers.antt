use Rattle.item_runs.proofs.OneEvent.{told_here, still_goes}
use Rattle.std.proofs.Common.{◌∙◌}
use Rattle.item_runs.proofs.events.happen.Goals as goal

pub returns-in-Ok-clause-told : goal.returns-in-Ok-clause-told
returns-in-Ok-clause-told c = λ other.
    c.apply.ensures.says
    ∙ told_here c.args.world.now c.reserve.new.self c.args.event.now c.in-Ok.ensures.same c.requires.goes_on c.in-Ok.ensures.ranges.0
    c.in-Ok.ensures.ranges.1 c.requires.can_happen.0

pub returns-in-Ok-clause-goes : goal.returns-in-Ok-clause-goes
returns-in-Ok-clause-goes c =
    still_goes c.apply.result c.reserve.new.self c.apply.new.self c.args.event.now c.apply.ensures.says c.apply.ensures.run
