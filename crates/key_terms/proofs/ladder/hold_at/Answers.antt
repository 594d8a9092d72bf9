use Rattle.std.proofs.Common.{set, ap, ◌∙◌}
use Rattle.key_terms.specs.Ladder.{held_by}
use Rattle.key_terms.proofs.Holding.{holding_set}
use Rattle.key_terms.proofs.ladder.hold_at.Goals as goal

pub returns-clause-items : goal.returns-clause-items
returns-clause-items c =
    let row = c.hold.ensures ∙ ap (held_by c.args.who) c.index.ensures in
    ap (set c.args.rows.now.items c.args.place) row ∙ holding_set c.args.who c.args.place c.args.rows.now.items c.index.result.now
