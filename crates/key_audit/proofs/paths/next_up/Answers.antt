use Rattle.std.proofs.Common.{None, Some, ap, ◌∙◌}
use Rattle.key_audit.specs.Derives.{key_in, key_of}
use Rattle.key_audit.proofs.Ways.{way_ends, way_next}
use Rattle.key_audit.proofs.paths.next_up.Goals as goal

pub returns-then-row-to-clause-way : goal.returns-then-row-to-clause-way
returns-then-row-to-clause-way c = way_ends c.args.ladder.now.rows c.requires.ladder.made c.args.to c.args.row c.if-row-to.true

pub returns-in-Root-clause-way : goal.returns-in-Root-clause-way
returns-in-Root-clause-way c =
    way_next c.args.ladder.now.rows c.requires.ladder.made c.args.to c.args.row c.if-row-to.false None (ap key_in c.row.ensures.row ∙ ap key_of c.in-Root.is)

pub returns-in-From-clause-way : goal.returns-in-From-clause-way
returns-in-From-clause-way c =
    way_next c.args.ladder.now.rows c.requires.ladder.made c.args.to c.args.row c.if-row-to.false (Some c.in-From.key.0)
    (ap key_in c.row.ensures.row ∙ ap key_of c.in-From.is)
