use Rattle.item_runs.proofs.OneEvent.{placed_here}
use Rattle.item_runs.proofs.events.place.Goals as goal

pub returns : goal.returns
returns c = placed_here c.args.world.now c.args.who.now c.address.result c.requires.goes_on c.address.ensures
