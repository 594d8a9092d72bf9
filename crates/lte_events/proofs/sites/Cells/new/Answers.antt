use Rattle.lte_events.proofs.SiteFacts.{no_cell}
use Rattle.lte_events.proofs.sites.Cells.new.Goals as goal

pub invariant_of-result : goal.invariant_of-result
invariant_of-result c = rw c.new.ensures no_cell
