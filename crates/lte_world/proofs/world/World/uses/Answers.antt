use Rattle.std.proofs.Common.{◌∙◌, ◌≡◌}
use Rattle.store_laws.specs.Records.{world_uses}
use Rattle.lte_world.proofs.Reading.{uses_read, differ}
use Rattle.lte_world.proofs.world.World.uses.Goals as goal

pub returns-clause-uses : goal.returns-clause-uses
returns-clause-uses c = uses_read c.self.inside.setup c.self.inside.journal.items c.self.inside.over c.self.inside.ready
    c.self.inside.system c.self.invariant.3 c.args.self.now c.self.view_is (λ w. c.uses.result.now ≡ world_uses w)
    (λ w is. c.uses.ensures ∙ is)

pub returns-clause-differ : goal.returns-clause-differ
returns-clause-differ c =
    differ c.self.inside.setup c.self.inside.journal.items c.self.inside.over c.self.inside.ready
    c.self.inside.system c.self.invariant.3 c.args.self.now c.self.view_is c.self.invariant.0 c.self.invariant.1
    c.uses.result.now c.uses.ensures
