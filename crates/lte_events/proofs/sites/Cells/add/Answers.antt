use Rattle.std.proofs.Common.{rules}
use Rattle.lte_events.proofs.SiteFacts.{one_more}
use Rattle.lte_events.proofs.sites.Cells.add.Goals as goal

pub invariant_of-self : goal.invariant_of-self
invariant_of-self c =
    rw c.push.ensures.items
    (one_more _ c.args.station c.args.cell c.self.invariant (search rules) (rw c.self.view_is search rules) c.requires)
