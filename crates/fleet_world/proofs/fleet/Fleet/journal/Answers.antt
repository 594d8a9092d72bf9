use Rattle.std.proofs.Common.{ap, sym, subst, length}
use Rattle.fleet_world.specs.{Fleets.Fleeted, Isolation.LinesAreOwn}
use Rattle.fleet_world.proofs.Reading.{isolation, freshness, separation}
use Rattle.fleet_world.proofs.fleet.Fleet.journal.Goals as goal

pub returns-clause-isolation : goal.returns-clause-isolation
returns-clause-isolation c none =
    subst (LinesAreOwn c.args.self.now.setup (length c.args.self.now.worlds)) (sym (ap (λ (v : Fleeted). v.journal) c.self.view_is))
    (isolation c.self.inside.over c.self.inside.setup c.self.inside.worlds.items c.self.inside.journal.items
    c.args.self.now c.self.view_is c.self.invariant none)

pub returns-clause-freshness : goal.returns-clause-freshness
returns-clause-freshness c none =
    freshness c.self.inside.over c.self.inside.setup c.self.inside.worlds.items c.self.inside.journal.items
    c.args.self.now c.self.view_is c.self.invariant none

pub returns-clause-separation : goal.returns-clause-separation
returns-clause-separation c none =
    separation c.self.inside.over c.self.inside.setup c.self.inside.worlds.items c.self.inside.journal.items
    c.args.self.now c.self.view_is c.self.invariant none
