use Rattle.std.proofs.Common.{sym}
use Rattle.lte_world.proofs.Holders.{held_one, row_held}
use Rattle.lte_world.proofs.noting.hold_one.Goals as goal

pub returns-in-Some-clause-held : goal.returns-in-Some-clause-held
returns-in-Some-clause-held c =
    held_one c.args.who c.args.key.now c.args.ladder.now.rows c.hold.new.self.rows c.in-Some.row.0
    (sym c.in-Some.ensures.row) c.hold.ensures.rows

pub returns-in-Some-clause-rows : goal.returns-in-Some-clause-rows
returns-in-Some-clause-rows c = row_held c.args.who c.args.ladder.now.rows c.hold.new.self.rows c.in-Some.row.0 c.hold.ensures.rows
