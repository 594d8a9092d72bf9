use Rattle.std.proofs.Common.{◌∙◌, ◌≡◌}
use Rattle.store_laws.specs.Rows.{world_rows}
use Rattle.lte_world.proofs.Reading.{rows_read}
use Rattle.lte_world.proofs.world.World.ladder.Goals as goal

pub returns : goal.returns
returns c =
    rows_read c.self.inside.setup c.self.inside.journal.items c.self.inside.over c.self.inside.ready
    c.self.inside.system c.self.invariant.3 c.args.self.now c.self.view_is
    (λ w. c.ladder.result.now.rows ≡ world_rows w) (λ w is. c.ladder.ensures ∙ is)
