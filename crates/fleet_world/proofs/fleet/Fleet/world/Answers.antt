use Rattle.fleet_world.proofs.Reading.{begins, own_is, each_headline}
use Rattle.fleet_world.proofs.fleet.Fleet.world.Goals as goal

pub returns-clause-sound : goal.returns-clause-sound
returns-clause-sound c none = (
  begins c.self.inside.over c.self.inside.setup c.self.inside.worlds.items c.self.inside.journal.items
      c.args.self.now c.self.view_is c.self.invariant none,
  own_is c.self.inside.over c.self.inside.setup c.self.inside.worlds.items c.self.inside.journal.items
      c.args.self.now c.self.view_is c.self.invariant none c.args.phone c.requires,
)

pub returns-clause-headline : goal.returns-clause-headline
returns-clause-headline c none =
    each_headline c.self.inside.over c.self.inside.setup c.self.inside.worlds.items c.self.inside.journal.items
    c.args.self.now c.self.view_is c.self.invariant none c.args.phone c.requires
